-- The faults of nodes, by their numbers.
use Rattle.std.proofs.Common.{ℕ, ◌+◌, ◌-◌, ◌<◌, ◌≤◌, ◌≡◌, ◌≢◌, List, [], ◌∷◌, ◌++◌, Option, None, length, map, get_or, sym, ap, ◌∙◌, subst, arith, ⊎_elim}
use Rattle.std.proofs.lemmas.Bool.{cases_lt}
use Rattle.std.proofs.lemmas.List.{get_or_append_left, get_or-append-add, get_or_at, get_or_past, get_or-map, length-map, length-append, length_push}
use Rattle.credit_link.specs.declared.turn.NodeFault.{NodeFault}
use Rattle.run_law.specs.Shapes.{Shape}
use Rattle.net_law.specs.Parsers.{ParserSeen}
use Rattle.net_law.specs.Groupers.{GrouperSeen}
use Rattle.net_law.specs.Processors.{ProcessorSeen}
use Rattle.net_law.specs.Nets.{Net, NetStands, parser_at, grouper_at, processor_at, no_parser, no_grouper, no_processor}
use Rattle.net_law.specs.Turned.{IsAlike}
use Rattle.run_rounds.specs.Faults.{fault_at}

-- ---- an item of four lists, the last of one item

module _ {X : Type 0} (xs ys zs : List X) (last d : X) where
  two : length (xs ++ ys) ≡ length xs + length ys
  two = length-append xs ys

  three : length (xs ++ ys ++ zs) ≡ length xs + length ys + length zs
  three = length-append (xs ++ ys) zs ∙ ap (λ (n : ℕ). n + length zs) two

  all : length (xs ++ ys ++ zs ++ last ∷ []) ≡ length xs + length ys + length zs + 1
  all = length_push (xs ++ ys ++ zs) last ∙ ap (λ (n : ℕ). n + 1) three

  pub in_first : (i : ℕ) → i < length xs → get_or (xs ++ ys ++ zs ++ last ∷ []) i d ≡ get_or xs i d
  in_first i less =
      get_or_append_left (xs ++ ys ++ zs) (last ∷ []) d i (omega (arith, less, three))
      ∙ get_or_append_left (xs ++ ys) zs d i (omega (arith, less, two)) ∙ get_or_append_left xs ys d i less

  pub in_second : (i : ℕ) → i < length ys → get_or (xs ++ ys ++ zs ++ last ∷ []) (length xs + i) d ≡ get_or ys i d
  in_second i less =
      get_or_append_left (xs ++ ys ++ zs) (last ∷ []) d (length xs + i) (omega (arith, less, three))
      ∙ get_or_append_left (xs ++ ys) zs d (length xs + i) (omega (arith, less, two)) ∙ get_or-append-add xs ys i d

  pub in_third : (i : ℕ) → i < length zs → get_or (xs ++ ys ++ zs ++ last ∷ []) (length xs + length ys + i) d ≡ get_or zs i d
  in_third i less =
      get_or_append_left (xs ++ ys ++ zs) (last ∷ []) d (length xs + length ys + i) (omega (arith, less, three))
      ∙ ap (λ (n : ℕ). get_or (xs ++ ys ++ zs) (n + i) d) (sym two) ∙ get_or-append-add (xs ++ ys) zs i d

  pub in_last : get_or (xs ++ ys ++ zs ++ last ∷ []) (length xs + length ys + length zs) d ≡ last
  in_last = get_or_at (xs ++ ys ++ zs) last [] d (length xs + length ys + length zs) three

  pub in_none : (i : ℕ) → length xs + length ys + length zs < i → get_or (xs ++ ys ++ zs ++ last ∷ []) i d ≡ d
  in_none i past = get_or_past (xs ++ ys ++ zs ++ last ∷ []) i d (omega (arith, past, all))

-- ---- the faults of a pipeline of this shape

pub record FaultsAre (net : Net) (shape : Shape) : Type 0 where
  pub parsers : (p : ℕ) → p < shape.parsers → fault_at net p ≡ (parser_at net p).fault
  pub groupers : (g : ℕ) → g < shape.groupers → fault_at net (shape.parsers + g) ≡ (grouper_at net g).fault
  pub processors : (q : ℕ) → q < shape.processors → fault_at net (shape.parsers + shape.groupers + q) ≡ (processor_at net q).fault
  pub merge : fault_at net (shape.parsers + shape.groupers + shape.processors) ≡ net.merge.fault
  pub past : (n : ℕ) → shape.parsers + shape.groupers + shape.processors < n → fault_at net n ≡ None

module _ (net : Net) where
  abbrev ps : List (Option NodeFault)
  ps = map (λ (s : ParserSeen). s.fault) net.parsers

  abbrev gs : List (Option NodeFault)
  gs = map (λ (s : GrouperSeen). s.fault) net.groupers

  abbrev qs : List (Option NodeFault)
  qs = map (λ (s : ProcessorSeen). s.fault) net.processors

  lists_are : FaultsAre net (record { parsers = length ps; groupers = length gs; processors = length qs })
  lists_are = record {
    parsers = λ p less.
        in_first ps gs qs net.merge.fault None p less
        ∙ get_or-map (λ (s : ParserSeen). s.fault) net.parsers p (no_parser net.job) None (subst (λ (n : ℕ). p < n) (length-map net.parsers (λ (s : ParserSeen). s.fault)) less);
    groupers = λ g less.
        in_second ps gs qs net.merge.fault None g less
        ∙ get_or-map (λ (s : GrouperSeen). s.fault) net.groupers g (no_grouper net.job) None (subst (λ (n : ℕ). g < n) (length-map net.groupers (λ (s : GrouperSeen). s.fault)) less);
    processors = λ q less.
        in_third ps gs qs net.merge.fault None q less
        ∙ get_or-map (λ (s : ProcessorSeen). s.fault) net.processors q (no_processor net.job) None (subst (λ (n : ℕ). q < n) (length-map net.processors (λ (s : ProcessorSeen). s.fault)) less);
    merge = in_last ps gs qs net.merge.fault None;
    past = λ n behind. in_none ps gs qs net.merge.fault None n behind;
  }

  pub faults_are : NetStands net → FaultsAre net net.shape
  faults_are now =
      subst (λ (n : ℕ). FaultsAre net (record { parsers = n; groupers = net.shape.groupers; processors = net.shape.processors })) (length-map net.parsers (λ (s : ParserSeen). s.fault) ∙ now.parser_count)
      (subst (λ (n : ℕ). FaultsAre net (record { parsers = length ps; groupers = n; processors = net.shape.processors })) (length-map net.groupers (λ (s : GrouperSeen). s.fault) ∙ now.grouper_count)
      (subst (λ (n : ℕ). FaultsAre net (record { parsers = length ps; groupers = length gs; processors = n })) (length-map net.processors (λ (s : ProcessorSeen). s.fault) ∙ now.processor_count) lists_are))

pub faults_after : (before after : Net) → IsAlike before after → NetStands after → FaultsAre after before.shape
faults_after before after alike then = subst (FaultsAre after) alike.same.1 (faults_are after then)

-- ---- what is true of all numbers

pub by_number : (P : ℕ → Type 0) (ps gs qs n : ℕ) → ((p : ℕ) → p < ps → P p) → ((g : ℕ) → g < gs → P (ps + g)) → ((q : ℕ) → q < qs → P (ps + gs + q)) → P (ps + gs + qs)
    → ((m : ℕ) → ps + gs + qs < m → P m) → P n
by_number P ps gs qs n parsers groupers processors merge past =
    ⊎_elim
    (λ (a : n < ps). parsers n a)
    (λ (b : ps ≤ n).
    ⊎_elim
    (λ (c : n < ps + gs). let at : ps + (n - ps) ≡ n = omega (arith, b) in subst P at (groupers (n - ps) (omega (arith, b, c))))
    (λ (c : ps + gs ≤ n).
    ⊎_elim
    (λ (e : n < ps + gs + qs). let at : ps + gs + (n - (ps + gs)) ≡ n = omega (arith, c) in subst P at (processors (n - (ps + gs)) (omega (arith, c, e))))
    (λ (e : ps + gs + qs ≤ n).
    ⊎_elim
    (λ (f : ps + gs + qs < n). past n f)
    (λ (f : n ≤ ps + gs + qs). let at : ps + gs + qs ≡ n = omega (arith, e, f) in subst P at merge)
    (cases_lt (ps + gs + qs) n))
    (cases_lt n (ps + gs + qs)))
    (cases_lt n (ps + gs)))
    (cases_lt n ps)

-- where all nodes but that of one number have the faults that they had, so have all other numbers
pub others_keep : (before after : Net) (node : ℕ) → FaultsAre before before.shape → FaultsAre after before.shape
    → ((p : ℕ) → p < before.shape.parsers → p ≢ node → (parser_at after p).fault ≡ (parser_at before p).fault)
    → ((g : ℕ) → g < before.shape.groupers → before.shape.parsers + g ≢ node → (grouper_at after g).fault ≡ (grouper_at before g).fault)
    → ((q : ℕ) → q < before.shape.processors → before.shape.parsers + before.shape.groupers + q ≢ node → (processor_at after q).fault ≡ (processor_at before q).fault)
    → (before.shape.parsers + before.shape.groupers + before.shape.processors ≢ node → after.merge.fault ≡ before.merge.fault)
    → (n : ℕ) → n ≢ node → fault_at after n ≡ fault_at before n
others_keep before after node was is parsers groupers processors merge n =
    by_number (λ (m : ℕ). m ≢ node → fault_at after m ≡ fault_at before m) before.shape.parsers before.shape.groupers before.shape.processors n
    (λ p less other. is.parsers p less ∙ parsers p less other ∙ sym (was.parsers p less))
    (λ g less other. is.groupers g less ∙ groupers g less other ∙ sym (was.groupers g less))
    (λ q less other. is.processors q less ∙ processors q less other ∙ sym (was.processors q less))
    (λ other. is.merge ∙ merge other ∙ sym was.merge)
    (λ m behind other. is.past m behind ∙ sym (was.past m behind))
