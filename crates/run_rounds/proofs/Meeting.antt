-- The first fault of some turns is that of those turns and of others before them.
use Rattle.std.proofs.Common.{ℕ}
use Rattle.credit_link.specs.declared.turn.NodeFault.{NodeFault}
use Rattle.net_law.specs.Nets.{Net}
use Rattle.net_law.specs.Rounds.{NoneHasFault}
use Rattle.run_rounds.specs.Runs.{MeetsFirst}
use Rattle.run_rounds.specs.declared.node_at.NodeAt.{NodeAt}

module _ (N : Type 0) (net : N → Net) (Goes : N → N → Type 0) (Meets : N → N → ℕ → NodeFault → Type 0) where
  pub meets_later : (goes_on : (a b c : N) → Goes a b → Goes b c → Goes a c) (start mid after : N) (at : NodeAt) → Goes start mid → MeetsFirst N net Goes Meets mid after at
      → MeetsFirst N net Goes Meets start after at
  meets_later goes_on start mid after at goes met =
      record { before = met.before; goes = goes_on start mid met.before goes met.goes; quiet = met.quiet; meets = met.meets }

  pub meets_now : (start mid after : N) (at : NodeAt) → Goes start mid → NoneHasFault (net mid) → Meets mid after at.node at.fault → MeetsFirst N net Goes Meets start after at
  meets_now start mid after at goes quiet meets = record { before = mid; goes = goes; quiet = quiet; meets = meets }
