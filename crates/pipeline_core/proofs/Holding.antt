-- What a pipeline keeps over turns and looks.
use Rattle.std.proofs.Common.{ℕ, List, [], ◌≡◌, ◌≢◌, ◌<◌, ◌≤◌, ◌+◌, Bool, true, false, Result, Ok, Err, Option, None, Some, length, refl, sym, ap, ◌∙◌, subst, arith, rules}
use Rattle.std.specs.Prelude.{IfOk, IfErr, IfSome, IsNone}
use Rattle.ds_base.specs.Items.{Items}
use Rattle.credit_link.specs.declared.row.LinkRow.{LinkRow}
use Rattle.credit_link.specs.declared.turn.Turn.{Turn}
use Rattle.credit_link.specs.declared.turn.NodeFault.{NodeFault}
use Rattle.run_law.specs.Shapes.{Shape}
use Rattle.net_law.specs.Nets.{Net, NetStands, parser_at, grouper_at, processor_at}
use Rattle.net_law.specs.Rounds.{NoneHasFault}
use Rattle.net_law.specs.Turned.{IsAlike}
use Rattle.net_law.proofs.Going.{parser_looked, grouper_looked, processor_looked, merge_looked}
use Rattle.net_law.proofs.Turned.{at_or_other}
use Rattle.new_pipeline.specs.Rooms.{IsRoom}
use Rattle.run_rounds.specs.declared.node_at.NodeAt.{NodeAt}
use Rattle.run_rounds.specs.Faults.{fault_at}
use Rattle.run_rounds.specs.Looked.{NodesLooked}
use Rattle.run_rounds.proofs.Looks.{none_met}
use Rattle.pipeline_law.specs.Going.{GoesOn}
use Rattle.pipeline_law.specs.Rows.{link_count}
use Rattle.pipeline_nodes.specs.Nodes.{NodesStand}
use Rattle.pipeline_nodes.proofs.Looked.{looked_faults}
use Rattle.pipeline_nodes.proofs.Numbers.{faults_are, by_number}
use Rattle.pipeline_core.specs.Pipelines.{FirstTells, PipelineHolds}

-- ---- faults by numbers

pub none_at : (net : Net) → NetStands net → NoneHasFault net → (n : ℕ) → fault_at net n ≡ None
none_at net now quiet n =
    let are = faults_are net now in
    by_number (λ (m : ℕ). fault_at net m ≡ None) net.shape.parsers net.shape.groupers net.shape.processors n
    (λ p less. are.parsers p less ∙ quiet.parsers p less)
    (λ g less. are.groupers g less ∙ quiet.groupers g less)
    (λ q less. are.processors q less ∙ quiet.processors q less)
    (are.merge ∙ quiet.merge)
    are.past

-- ---- looks

pub goes_by_look : (before after : Net) → NodesLooked before after → GoesOn before after
goes_by_look before after looks = record {
  alike = looks.alike;
  parsers = λ p less. parser_looked (parser_at before p) (parser_at after p) (looks.parsers p less);
  groupers = λ g less. grouper_looked (grouper_at before g) (grouper_at after g) (looks.groupers g less);
  processors = λ q less. processor_looked (processor_at before q) (processor_at after q) (looks.processors q less);
  merge = merge_looked before.merge after.merge looks.merge;
}

-- ---- the fault in an answer

abbrev some_is : Option NodeAt → NodeAt → NodeAt
some_is None other = other
some_is (Some at) other = at

abbrev pub bad_of : Result Turn NodeFault → NodeFault → NodeFault
bad_of (Ok turn) other = other
bad_of (Err bad) other = bad

abbrev is_ok : Result Turn NodeFault → Bool
is_ok (Ok turn) = true
is_ok (Err bad) = false

same_some : (a b : NodeAt) → Some a ≡ Some b → a ≡ b
same_some a b is = ap (λ (o : Option NodeAt). some_is o a) is

pub none_is : (o : Option NodeAt) → IsNone o → o ≡ None
none_is None h = refl
none_is (Some at) h = absurd (search rules)

pub is_none : (o : Option NodeAt) → o ≡ None → IsNone o
is_none o is = subst (λ (x : Option NodeAt). IsNone x) (sym is) (search rules)

-- ---- the first fault over turns and looks

module _ (old new : Net) (first : Option NodeAt) (tells : FirstTells old first) where
  pub tells_by_look : NetStands old → NodesLooked old new → FirstTells new first
  tells_by_look now looks = record {
    met = λ at is. looked_faults old new now looks at.node ∙ tells.met at is;
    quiet = λ none. none_met old new looks (tells.quiet none);
  }

  -- a turn of one node, which gave no fault
  pub tells_by_turn : (node : ℕ) (turn : Turn) → ((n : ℕ) → n ≢ node → fault_at new n ≡ fault_at old n) → ((bad : NodeFault) → fault_at old node ≡ Some bad → Ok turn ≡ Err bad)
      → (NoneHasFault old → NoneHasFault new) → FirstTells new first
  tells_by_turn node turn others again turns = record {
    met = λ at is.
        at_or_other (λ (m : ℕ). fault_at old m ≡ Some at.fault → fault_at new m ≡ Some at.fault) node at.node
        (λ had. absurd (let wrong : true ≡ false = ap is_ok (again at.fault had) in cc))
        (λ other had. others at.node other ∙ had) (tells.met at is);
    quiet = λ none. turns (tells.quiet none);
  }

  -- and one that did
  pub tells_by_fault : (node : ℕ) (bad : NodeFault) (first' : Option NodeAt) → ((n : ℕ) → n ≢ node → fault_at new n ≡ fault_at old n)
      → ((had : NodeFault) → fault_at old node ≡ Some had → bad ≡ had) → fault_at new node ≡ Some bad → IfSome first (λ at. first' ≡ Some at)
      → (first ≡ None → first' ≡ Some (record { node = node; fault = bad })) → FirstTells new first'
  tells_by_fault node bad first' others again fault kept set = record { met = by_first first refl; quiet = none first refl }
    where
      kept_at : (a : NodeAt) → first ≡ Some a → first' ≡ Some a
      kept_at a was = subst (λ (o : Option NodeAt). IfSome o (λ at. first' ≡ Some at)) was kept

      by_first : (f : Option NodeAt) → first ≡ f → (at : NodeAt) → first' ≡ Some at → fault_at new at.node ≡ Some at.fault
      by_first None was at now =
          let same : record { node = node; fault = bad } ≡ at = same_some (record { node = node; fault = bad }) at (sym (set was) ∙ now) in
          subst (λ (a : NodeAt). fault_at new a.node ≡ Some a.fault) same fault
      by_first (Some a) was at now =
          let same : a ≡ at = same_some a at (sym (kept_at a was) ∙ now) in
          subst (λ (x : NodeAt). fault_at new x.node ≡ Some x.fault) same
          (at_or_other (λ (m : ℕ). fault_at old m ≡ Some a.fault → fault_at new m ≡ Some a.fault) node a.node
          (λ had. fault ∙ ap (λ (b : NodeFault). Some b) (again a.fault had))
          (λ other had. others a.node other ∙ had) (tells.met a was))

      none : (f : Option NodeAt) → first ≡ f → first' ≡ None → NoneHasFault new
      none None was now = absurd (let wrong : Some (record { node = node; fault = bad }) ≡ None = sym (set was) ∙ now in cc)
      none (Some a) was now = absurd (let wrong : Some a ≡ None = sym (kept_at a was) ∙ now in cc)

-- ---- what a pipeline keeps

module _ {S : Type 0} (old new : Net) (first : Option NodeAt) (lists : List (Items S)) (gathered : Items S) (captures : ℕ) (rows : Items LinkRow) (held : PipelineHolds old first lists gathered captures rows) where
  pub holds_on : (first' : Option NodeAt) → NodesStand new → IsAlike old new → FirstTells new first' → PipelineHolds new first' lists gathered captures rows
  holds_on first' stands alike tells = record {
    nodes = stands;
    tells = tells;
    room = subst (λ (s : Shape). IsRoom s.parsers captures lists gathered) (sym alike.same.1) held.room;
    all_captures = held.all_captures ∙ ap (λ job. length (Rattle.summary_spec.specs.Declaration.Declared.captures job)) (sym alike.same.0);
    no_row = held.no_row;
    row_room = subst (λ (s : Shape). link_count s ≤ rows.spare) (sym alike.same.1) held.row_room;
  }

module _ (net : Net) (first : Option NodeAt) (now : NetStands net) (tells : FirstTells net first) where
  pub first_none : NoneHasFault net → first ≡ None
  first_none quiet = by_first first refl
    where
      by_first : (f : Option NodeAt) → first ≡ f → first ≡ None
      by_first None is = is
      by_first (Some at) is = absurd (let wrong : None ≡ Some at.fault = sym (none_at net now quiet at.node) ∙ tells.met at is in cc)

  pub first_some : IfSome first (λ at. fault_at net at.node ≡ Some at.fault)
  first_some = by_first first refl
    where
      by_first : (f : Option NodeAt) → first ≡ f → IfSome f (λ at. fault_at net at.node ≡ Some at.fault)
      by_first None is = tt
      by_first (Some at) is = tells.met at is
