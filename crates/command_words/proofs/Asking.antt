-- What the words ask, from what is read of them.
use Rattle.std.proofs.Common.{ℕ, List, ◌∷◌, ◌≡◌, Option, Some, None, IfSome, length, take, sym, ap, ◌∙◌, subst, arith}
use Rattle.std.proofs.lemmas.List.{take_all}
use Rattle.command_words.specs.declared.table.Name.{Name}
use Rattle.command_words.specs.declared.reading.Read.{Read}
use Rattle.command_words.specs.declared.command.Command.{Command}
use Rattle.command_words.specs.declared.command.Sizes.{Sizes}
use Rattle.command_words.specs.CommandTable.{command_word, plain_kinds, option_kind}
use Rattle.command_words.specs.CommandLine.{Part, spell, plain_words, values_for, Have, AtMostOne, IsLine}
use Rattle.command_words.specs.Words.{Asked, Accepts, Means, Says, HasSizes, NumberOr, FieldOr, command_of}
use Rattle.command_words.specs.Words.Asked.{AskedCount, AskedStack, AskedCheck, AskedCentral, AskedRun, AskedSample, AskedHelp, AskedVersion}
use Rattle.command_words.specs.Command.{asked_of}
use Rattle.command_words.specs.Reading.{StandsFor, Stands, shown_words, shown_values, given_values}
use Rattle.command_words.proofs.Names.{one_command}
use Rattle.command_words.proofs.Next.{words_read, whole, whole_waiting}

-- the sizes depend on the values alone
same_sizes : (s : Sizes) (f g : ℕ → List (List ℕ)) → ((k : ℕ) → f k ≡ g k) → HasSizes f s → HasSizes g s
same_sizes s f g e h = record {
  parsers = subst (λ x. NumberOr 2 x s.parsers) (e 0) h.parsers;
  groupers = subst (λ x. NumberOr 2 x s.groupers) (e 1) h.groupers;
  processors = subst (λ x. NumberOr 2 x s.processors) (e 2) h.processors;
  credits = subst (λ x. NumberOr 16 x s.credits) (e 3) h.credits;
}

-- what is asked depends on the values alone
pub same_means : (a : Asked) (plain : List (List ℕ)) (f g : ℕ → List (List ℕ)) → ((k : ℕ) → f k ≡ g k) → Means a plain f → Means a plain g
same_means (AskedCount field window file) plain f g e m = m
same_means (AskedStack port field file) plain f g e m =
    (m.0, subst (λ x. NumberOr 4789 x port) (e 0) m.1, subst (λ x. FieldOr x field) (e 1) m.2)
same_means (AskedCheck job) plain f g e m = m
same_means (AskedCentral job) plain f g e m = m
same_means (AskedRun job sizes) plain f g e m = (m.0, same_sizes sizes f g e m.1)
same_means (AskedSample number sizes) plain f g e m = (m.0, same_sizes sizes f g e m.1)
same_means AskedHelp plain f g e m = m
same_means AskedVersion plain f g e m = m

-- a line whose parts say this is accepted
pub accepts : (c : Name) (ws : List (List ℕ)) (ps : List Part) (a : Asked) → ws ≡ spell c ps → IsLine c ps
    → Says c (plain_words ps) (λ k. values_for k ps) a → Accepts (command_word c ∷ ws) a
accepts c ws ps a e line s =
    let back : c ≡ command_of a = sym s.0 in
    record {
      parts = ps;
      spelled = ap (λ x. command_word c ∷ x) e ∙ ap (λ d. command_word d ∷ spell d ps) back;
      line = subst (λ d. IsLine d ps) back line;
      means = s.1;
    }

-- a line that is accepted has the parts that were read
pub record Known (c : Name) (count : ℕ) (plain : List (List ℕ)) (values : List (Option (List ℕ))) (a : Asked) : Type 0 where
  pub full : count ≡ length (plain_kinds c)
  pub says : Says c (take count plain) (given_values values) a
  pub have : Have (plain_kinds c) (take count plain)
  pub options : (k : ℕ) → AtMostOne (option_kind c k) (given_values values k)

-- an accepted line of a command, as parts of the command
pub record LineOf (c : Name) (ws : List (List ℕ)) (a : Asked) : Type 0 where
  pub parts : List Part
  pub command : command_of a ≡ c
  pub spelled : ws ≡ spell c parts
  pub line : IsLine c parts
  pub means : Means a (plain_words parts) (λ k. values_for k parts)

pub line_of : (c : Name) (ws : List (List ℕ)) (a : Asked) → Accepts (command_word c ∷ ws) a → LineOf c ws a
line_of c ws a h =
    let heads : command_word c ≡ command_word (command_of a) = (let s = h.spelled in cc) in
    let tails : ws ≡ spell (command_of a) h.parts = (let s = h.spelled in cc) in
    let one : command_of a ≡ c = sym (one_command c (command_of a) heads) in
    record {
      parts = h.parts;
      command = one;
      spelled = subst (λ d. ws ≡ spell d h.parts) one tails;
      line = subst (λ d. IsLine d h.parts) one h.line;
      means = h.means;
    }

pub known : (c : Name) (count : ℕ) (plain : List (List ℕ)) (values : List (Option (List ℕ))) (ws : List (List ℕ)) (a : Asked)
    → StandsFor c count plain values None ws → Accepts (command_word c ∷ ws) a → Known c count plain values a
known c count plain values ws a h acc =
    let l = line_of c ws a acc in
    let w = whole c count plain values ws l.parts h l.line l.spelled in
    let words : plain_words l.parts ≡ take count plain = ap plain_words w.0 ∙ h.plain_read in
    let vals : (k : ℕ) → values_for k l.parts ≡ given_values values k = λ k. ap (λ x. values_for k x) w.0 ∙ h.values_read k in
    record {
      full = w.1;
      says = (l.command, same_means a (take count plain) (λ k. values_for k l.parts) (given_values values) vals (subst (λ x. Means a x (λ k. values_for k l.parts)) words l.means));
      have = subst (λ x. Have (plain_kinds c) x) words l.line.plain;
      options = λ k. subst (λ x. AtMostOne (option_kind c k) x) (vals k) (l.line.options k);
    }

pub none_waiting : (c : Name) (r : Read) (k : ℕ) → r.waiting ≡ Some k → (ws : List (List ℕ)) → Stands c r ws
    → (a : Asked) → Accepts (command_word c ∷ ws) a → ⊥
none_waiting c r k e ws h a acc =
    let l = line_of c ws a acc in
    whole_waiting c r.count (shown_words r) (shown_values r) k ws l.parts (subst (λ x. StandsFor c r.count (shown_words r) (shown_values r) x ws) e h) l.line l.spelled

at_none : (c : Name) (r : Read) (ws : List (List ℕ)) → r.waiting ≡ None → Stands c r ws → StandsFor c r.count (shown_words r) (shown_values r) None ws
at_none c r ws e h = subst (λ x. StandsFor c r.count (shown_words r) (shown_values r) x ws) e h

pub none_short : (c : Name) (r : Read) → r.waiting ≡ None → (r.count ≡ length (plain_kinds c) → ⊥) → (ws : List (List ℕ)) → Stands c r ws
    → (a : Asked) → Accepts (command_word c ∷ ws) a → ⊥
none_short c r e short ws h a acc = short (known c r.count (shown_words r) (shown_values r) ws a (at_none c r ws e h) acc).full

-- the parts that were read are a line where all needed words are there
full_line : (c : Name) (count : ℕ) (plain : List (List ℕ)) (values : List (Option (List ℕ))) (ws : List (List ℕ))
    → (h : StandsFor c count plain values None ws) → count ≡ length (plain_kinds c) → IsLine c h.parts
full_line c count plain values ws h e =
    record {
      form = h.start.form;
      plain = subst (λ ks. Have ks (plain_words h.parts)) (take_all count (plain_kinds c) (omega (arith, e))) h.start.plain;
      options = h.start.options;
    }

accepted : (c : Name) (count : ℕ) (plain : List (List ℕ)) (values : List (Option (List ℕ))) (ws : List (List ℕ)) (a : Asked)
    → StandsFor c count plain values None ws → count ≡ length (plain_kinds c) → Says c (take count plain) (given_values values) a
    → Accepts (command_word c ∷ ws) a
accepted c count plain values ws a h e s =
    accepts c ws h.parts a (words_read c h.parts ws h.spelled) (full_line c count plain values ws h e) (
      s.0,
      same_means a (plain_words h.parts) (given_values values) (λ k. values_for k h.parts) (λ k. sym (h.values_read k))
          (subst (λ x. Means a x (given_values values)) (sym h.plain_read) s.1),
    )

-- what a command says of its words and values, at the count that was read
at_count : (c d : Name) (r : Read) (a : Asked) → c ≡ d → r.count ≡ length (plain_kinds c)
    → Says d (take (length (plain_kinds d)) (shown_words r)) (given_values (shown_values r)) a
    → Says c (take r.count (shown_words r)) (given_values (shown_values r)) a
at_count c d r a e n s =
    let t = subst (λ x. Says x (take (length (plain_kinds x)) (shown_words r)) (given_values (shown_values r)) a) (sym e) s in
    subst (λ m. Says c (take m (shown_words r)) (given_values (shown_values r)) a) (sym n) t

from_count : (c d : Name) (r : Read) (a : Asked) → c ≡ d → r.count ≡ length (plain_kinds c)
    → Says c (take r.count (shown_words r)) (given_values (shown_values r)) a
    → Says d (take (length (plain_kinds d)) (shown_words r)) (given_values (shown_values r)) a
from_count c d r a e n s =
    let t = subst (λ m. Says c (take m (shown_words r)) (given_values (shown_values r)) a) n s in
    subst (λ x. Says x (take (length (plain_kinds x)) (shown_words r)) (given_values (shown_values r)) a) e t

pub made_accepts : (c d : Name) (r : Read) (made : Option Command) → c ≡ d → r.waiting ≡ None → r.count ≡ length (plain_kinds c)
    → IfSome made (λ m. Says d (take (length (plain_kinds d)) (shown_words r)) (given_values (shown_values r)) (asked_of m))
    → IfSome made (λ m. (ws : List (List ℕ)) → Stands c r ws → Accepts (command_word c ∷ ws) (asked_of m))
made_accepts c d r None e w n says = tt
made_accepts c d r (Some m) e w n says =
    λ ws h. accepted c r.count (shown_words r) (shown_values r) ws (asked_of m) (at_none c r ws w h) n (at_count c d r (asked_of m) e n says)

pub made_only : (c d : Name) (r : Read) (made : Option Command) → c ≡ d → r.waiting ≡ None → r.count ≡ length (plain_kinds c)
    → IfSome made (λ m. (a : Asked) → Says d (take (length (plain_kinds d)) (shown_words r)) (given_values (shown_values r)) a → a ≡ asked_of m)
    → IfSome made (λ m. (ws : List (List ℕ)) → Stands c r ws → (a : Asked) → Accepts (command_word c ∷ ws) a → a ≡ asked_of m)
made_only c d r None e w n only = tt
made_only c d r (Some m) e w n only =
    λ ws h a acc. only a (from_count c d r a e n (known c r.count (shown_words r) (shown_values r) ws a (at_none c r ws w h) acc).says)

-- for all values, so for those that are given
pub for_values : (P : (ℕ → List (List ℕ)) → Command → Type 0) (v : ℕ → List (List ℕ)) (made : Option Command)
    → IfSome made (λ m. (values : ℕ → List (List ℕ)) → P values m) → IfSome made (λ m. P v m)
for_values P v None h = tt
for_values P v (Some m) h = h v
