-- Every list of words that the reader has not refused begins an accepted list.
use Rattle.std.proofs.Common.{ℕ, zero, suc, List, [], ◌∷◌, ◌++◌, ◌≡◌, ◌<◌, ◌≤◌, ◌+◌, false, Option, Some, None, length, take, drop, refl, sym, ap, ◌∙◌, subst, append_assoc, arith, rules}
use Rattle.std.proofs.lemmas.List.{append-nil, take-append-drop}
use Rattle.ds_base.specs.Times.{hour}
use Rattle.field_table.specs.declared.field_ref.FieldRef.{FieldRef}
use Rattle.field_table.specs.declared.kind.Kind.TheVariants.{Eth}
use Rattle.field_table.specs.FieldText.{field_text}
use Rattle.command_words.specs.declared.kind.WordKind.{WordKind}
use Rattle.command_words.specs.declared.kind.WordKind.TheVariants.{Field, Number, File}
use Rattle.command_words.specs.declared.command.Sizes.{Sizes}
use Rattle.command_words.specs.declared.table.Name.{Name}
use Rattle.command_words.specs.declared.table.Name.TheVariants.{Count, Stack, Check, Central, Run, Sample, Help, Version}
use Rattle.command_words.specs.Kinds.{HasKind, IsNumber, IsRequired}
use Rattle.command_words.specs.CommandTable.{command_word, plain_kinds, options_of, option_word, option_kind, size_options}
use Rattle.command_words.specs.CommandLine.{Part, spell, plain_words, values_for, AreInForm, Have, AtMostOne, AreParts, IsLine}
use Rattle.command_words.specs.CommandLine.Part.{Plain, Apart}
use Rattle.command_words.specs.Words.{Asked, Begins, Says, HasSizes, NumberOr, FieldOr}
use Rattle.command_words.specs.Words.Asked.{AskedCount, AskedStack, AskedCheck, AskedCentral, AskedRun, AskedSample, AskedHelp, AskedVersion}
use Rattle.command_words.specs.Reading.{StandsFor, Goes}
use Rattle.command_words.proofs.Parts.{plain_words-append, values_for-append, spell-append, form-append}
use Rattle.command_words.proofs.KindLists.{have-append}
use Rattle.command_words.proofs.Steps.{with_apart}
use Rattle.command_words.proofs.Asking.{line_of, accepts}

-- an example of a kind: a word that may stand where one is needed
record Example (kind : WordKind) : Type 0 where
  word : List ℕ
  has : HasKind kind word
  required : IsRequired word

abbrev Examples : List WordKind → Type 0
Examples [] = Unit {0}
Examples (kind ∷ kinds) = Example kind × Examples kinds

a_field : FieldRef
a_field = record { kind = Eth; inside = false; steps = 0; field = 0; is_near = omega arith; is_field = omega arith }

of_field : Example Field
unfolding field_text a_field
of_field = record { word = field_text a_field; has = (a_field, refl); required = λ e. absurd (omega (arith, e)) }

digit : (d : ℕ) → d ≤ 9 → IsNumber ((48 + d) ∷ []) d
digit d small = record { some = omega arith; few = omega arith; each = search rules; value = search rules }

of_zero : (most : ℕ) → Example (Number 0 most)
of_zero most = record { word = 48 ∷ []; has = (0, digit 0 (omega arith), omega arith, omega arith); required = λ e. absurd (omega (arith, e)) }

of_one : (most : ℕ) → 1 ≤ most → Example (Number 1 most)
of_one most h = record { word = 49 ∷ []; has = (1, digit 1 (omega arith), omega arith, h); required = λ e. absurd (omega (arith, e)) }

of_file : Example File
of_file = record { word = 97 ∷ []; has = tt; required = λ e. absurd (omega (arith, e)) }

of_plain : (c : Name) → Examples (plain_kinds c)
of_plain Count = (of_field, (of_zero hour, (of_file, tt)))
of_plain Stack = (of_file, tt)
of_plain Check = (of_file, tt)
of_plain Central = (of_file, tt)
of_plain Run = (of_file, tt)
of_plain Sample = (of_zero 18446744073709551615, tt)
of_plain Help = tt
of_plain Version = tt

of_size : (k : ℕ) → k < length size_options → Example (option_kind Run k)
of_size zero h = of_one 16 (omega arith)
of_size (suc zero) h = of_one 16 (omega arith)
of_size (suc (suc zero)) h = of_one 16 (omega arith)
of_size (suc (suc (suc zero))) h = of_one 1024 (omega arith)
of_size (suc (suc (suc (suc k)))) h = absurd (omega arith)

of_option : (c : Name) (k : ℕ) → k < length (options_of c) → Example (option_kind c k)
of_option Count k h = absurd (omega arith)
of_option Check k h = absurd (omega arith)
of_option Central k h = absurd (omega arith)
of_option Run k h = of_size k h
of_option Sample k h = of_size k h
of_option Help k h = absurd (omega arith)
of_option Version k h = absurd (omega arith)
of_option Stack zero h = of_one 65535 (omega arith)
of_option Stack (suc zero) h = of_field
of_option Stack (suc (suc k)) h = absurd (omega arith)

still : (n : ℕ) (kinds : List WordKind) → Examples kinds → Examples (drop n kinds)
still zero kinds s = s
still (suc n) [] s = tt
still (suc n) (kind ∷ kinds) s = still n kinds s.1

-- needed words alone
record Needed (c : Name) (kinds : List WordKind) : Type 0 where
  parts : List Part
  form : AreInForm c parts
  have : Have kinds (plain_words parts)
  nothing : (k : ℕ) → values_for k parts ≡ []

needed : (c : Name) (kinds : List WordKind) → Examples kinds → Needed c kinds
needed c [] s = record { parts = []; form = tt; have = tt; nothing = λ k. refl }
needed c (kind ∷ kinds) s =
    let n = needed c kinds s.1 in
    record { parts = Plain s.0.word ∷ n.parts; form = (s.0.required, n.form); have = (s.0.has, n.have); nothing = n.nothing }

-- parts that are begun go on to a line
record Whole (c : Name) (ps : List Part) : Type 0 where
  more : List Part
  line : IsLine c (ps ++ more)

whole_line : (c : Name) (n : ℕ) (ps : List Part) → AreParts c (take n (plain_kinds c)) ps → Whole c ps
whole_line c n ps h =
    let r = needed c (drop n (plain_kinds c)) (still n (plain_kinds c) (of_plain c)) in
    let kinds = have-append (take n (plain_kinds c)) (drop n (plain_kinds c)) (plain_words ps) (plain_words r.parts) h.plain r.have in
    record {
      more = r.parts;
      line = record {
        form = form-append c ps r.parts h.form r.form;
        plain = rw (plain_words-append ps r.parts) (subst (λ ks. Have ks (plain_words ps ++ plain_words r.parts)) (take-append-drop n (plain_kinds c)) kinds);
        options = λ k. subst (λ vs. AtMostOne (option_kind c k) vs)
            (sym (values_for-append k ps r.parts ∙ ap (λ vs. values_for k ps ++ vs) (r.nothing k) ∙ append-nil (values_for k ps))) (h.options k);
      };
    }

pub goes_on : (c : Name) (count : ℕ) (plain : List (List ℕ)) (values : List (Option (List ℕ))) (o : Option ℕ) (ws : List (List ℕ))
    → StandsFor c count plain values o ws → Goes c ws
goes_on c count plain values None ws h =
    let w = whole_line c count h.parts h.start in
    (spell c w.more, h.parts ++ w.more, w.line, ap (λ x. x ++ spell c w.more) (h.spelled ∙ append-nil (spell c h.parts)) ∙ sym (spell-append c h.parts w.more))
goes_on c count plain values (Some k) ws h =
    let s = of_option c k h.free.0 in
    let ps = h.parts ++ (Apart k s.word ∷ []) in
    let w = whole_line c count ps (with_apart c (take count (plain_kinds c)) h.parts k s.word h.start h.free.0 h.free.1 s.required s.has) in
    let read : ws ++ (s.word ∷ []) ≡ spell c ps =
    ap (λ x. x ++ (s.word ∷ [])) h.spelled ∙ append_assoc (spell c h.parts) (option_word c k ∷ []) (s.word ∷ []) ∙ sym (spell-append c h.parts (Apart k s.word ∷ [])) in
    (s.word ∷ spell c w.more, ps ++ w.more, w.line, sym (append_assoc ws (s.word ∷ []) (spell c w.more)) ∙ ap (λ x. x ++ spell c w.more) read ∙ sym (spell-append c ps w.more))

-- a line asks something
record Something (c : Name) (plain : List (List ℕ)) (values : ℕ → List (List ℕ)) : Type 0 where
  asked : Asked
  says : Says c plain values asked

number_of : (most usual : ℕ) (vs : List (List ℕ)) → AtMostOne (Number 1 most) vs → (n : ℕ) × NumberOr usual vs n
number_of most usual [] h = (usual, refl)
number_of most usual (v ∷ []) h = (h.0, h.1)
number_of most usual (v ∷ w ∷ vs) h = absurd h

sizes_of : (values : ℕ → List (List ℕ)) → ((k : ℕ) → AtMostOne (option_kind Run k) (values k)) → (s : Sizes) × HasSizes values s
sizes_of values o =
    let parsers = number_of 16 2 (values 0) (o 0) in
    let groupers = number_of 16 2 (values 1) (o 1) in
    let processors = number_of 16 2 (values 2) (o 2) in
    let credits = number_of 1024 16 (values 3) (o 3) in (
      record { parsers = parsers.0; groupers = groupers.0; processors = processors.0; credits = credits.0 },
      record { parsers = parsers.1; groupers = groupers.1; processors = processors.1; credits = credits.1 },
    )

field_of : (vs : List (List ℕ)) → AtMostOne Field vs → (f : Option FieldRef) × FieldOr vs f
field_of [] h = (None, tt)
field_of (v ∷ []) h = (Some h.0, h.1)
field_of (v ∷ w ∷ vs) h = absurd h

of_count : (ws : List (List ℕ)) (values : ℕ → List (List ℕ)) → Have (plain_kinds Count) ws → Something Count ws values
of_count [] values h = absurd h
of_count (a ∷ []) values h = absurd h.1
of_count (a ∷ b ∷ []) values h = absurd h.1.1
of_count (a ∷ b ∷ d ∷ []) values h =
    record { asked = AskedCount h.0.0 h.1.0.0 d; says = (refl, (b, ap (λ x. x ∷ b ∷ d ∷ []) h.0.1, h.1.0.1)) }
of_count (a ∷ b ∷ d ∷ e ∷ ws) values h = absurd h.1.1.1

of_stack : (ws : List (List ℕ)) (values : ℕ → List (List ℕ)) → Have (plain_kinds Stack) ws
    → ((k : ℕ) → AtMostOne (option_kind Stack k) (values k)) → Something Stack ws values
of_stack [] values h o = absurd h
of_stack (a ∷ []) values h o =
    let n = number_of 65535 4789 (values 0) (o 0) in
    let f = field_of (values 1) (o 1) in
    record { asked = AskedStack n.0 f.0 a; says = (refl, (refl, n.1, f.1)) }
of_stack (a ∷ b ∷ ws) values h o = absurd h.1

of_check : (ws : List (List ℕ)) (values : ℕ → List (List ℕ)) → Have (plain_kinds Check) ws → Something Check ws values
of_check [] values h = absurd h
of_check (a ∷ []) values h = record { asked = AskedCheck a; says = (refl, refl) }
of_check (a ∷ b ∷ ws) values h = absurd h.1

of_central : (ws : List (List ℕ)) (values : ℕ → List (List ℕ)) → Have (plain_kinds Central) ws → Something Central ws values
of_central [] values h = absurd h
of_central (a ∷ []) values h = record { asked = AskedCentral a; says = (refl, refl) }
of_central (a ∷ b ∷ ws) values h = absurd h.1

of_run : (ws : List (List ℕ)) (values : ℕ → List (List ℕ)) → Have (plain_kinds Run) ws
    → ((k : ℕ) → AtMostOne (option_kind Run k) (values k)) → Something Run ws values
of_run [] values h o = absurd h
of_run (a ∷ []) values h o = let s = sizes_of values o in record { asked = AskedRun a s.0; says = (refl, (refl, s.1)) }
of_run (a ∷ b ∷ ws) values h o = absurd h.1

of_sample : (ws : List (List ℕ)) (values : ℕ → List (List ℕ)) → Have (plain_kinds Sample) ws
    → ((k : ℕ) → AtMostOne (option_kind Sample k) (values k)) → Something Sample ws values
of_sample [] values h o = absurd h
of_sample (a ∷ []) values h o = let s = sizes_of values o in record { asked = AskedSample h.0.0 s.0; says = (refl, ((a, refl, h.0.1), s.1)) }
of_sample (a ∷ b ∷ ws) values h o = absurd h.1

something : (c : Name) (ps : List Part) → IsLine c ps → Something c (plain_words ps) (λ k. values_for k ps)
something Count ps h = of_count (plain_words ps) (λ k. values_for k ps) h.plain
something Stack ps h = of_stack (plain_words ps) (λ k. values_for k ps) h.plain h.options
something Check ps h = of_check (plain_words ps) (λ k. values_for k ps) h.plain
something Central ps h = of_central (plain_words ps) (λ k. values_for k ps) h.plain
something Run ps h = of_run (plain_words ps) (λ k. values_for k ps) h.plain h.options
something Sample ps h = of_sample (plain_words ps) (λ k. values_for k ps) h.plain h.options
something Help ps h = record { asked = AskedHelp; says = (refl, tt) }
something Version ps h = record { asked = AskedVersion; says = (refl, tt) }

-- words behind the command's word go on exactly where the whole list begins an accepted one
pub begins : (c : Name) (ws : List (List ℕ)) → Goes c ws → Begins (command_word c ∷ ws)
begins c ws g =
    let s = something c g.1 g.2 in
    (g.0, s.asked, accepts c (ws ++ g.0) g.1 s.asked g.3 g.2 s.says)

pub goes : (c : Name) (ws : List (List ℕ)) → Begins (command_word c ∷ ws) → Goes c ws
goes c ws b =
    let l = line_of c (ws ++ b.0) b.1 b.2 in
    (b.0, l.parts, l.line, l.spelled)
