-- What stands on the machine's stack.
use Rattle.std.specs.Prelude.{List, map, reverse}
use Rattle.query_syntax.specs.declared.stack.Frame.{Frame}
use Rattle.query_syntax.specs.declared.stack.Frame.TheVariants.{Left, Open, Not}
use Rattle.query_syntax.specs.Tree.{tree_of}
use Rattle.query_syntax.specs.declared.machine.Mode.{Mode}
use Rattle.query_syntax.specs.declared.machine.Mode.TheVariants as mode
use Rattle.query_syntax.specs.Machine as machine

-- what a frame shows
abbrev pub frame_of : Frame → machine.Frame
frame_of (Left tree operator) = machine.Pending (tree_of tree) operator
frame_of Open = machine.Opened
frame_of (Not at) = machine.NotOpened at

-- what a stack shows, which has its topmost frame last
abbrev pub frames : List Frame → List machine.Frame
frames items = reverse (map frame_of items)

-- what a mode shows
abbrev pub mode_of : Mode → machine.Mode
mode_of mode.Want = machine.Want
mode_of (mode.Have tree) = machine.Have (tree_of tree)
mode_of (mode.Inside call) = machine.Inside call

abbrev pub state_of : List Frame → Mode → machine.State
state_of items mode = (frames items, mode_of mode)
