-- Groups, as contracts see them.
use Rattle.std.specs.Prelude.{ℕ, List}
use Rattle.ds_base.specs.declared.summary.Summary.{Summary}
use Rattle.ds_base.specs.declared.summary.Group.{Group}

-- a group, without where it lies in memory: the copies of one packet
pub record Copies : Type 0 where
  pub key : List ℕ
  pub members : List Summary

-- what a group shows
abbrev pub copies_of : Group → Copies
copies_of group = record { key = group.key; members = group.members.items }
