-- A node's ends of links by their numbers.
use Rattle.std.specs.Prelude.{ℕ, false, List, [], None, map, slice_index_or}
use denote.RawPtr.{null_ptr}
use Rattle.node_frames.specs.declared.frame.Frame.{Frame}
use Rattle.byte_rings.specs.Rings.{PipeName, fresh}
use Rattle.credit_link.specs.Ends.{TxSeen, RxSeen}
use Rattle.shuffle_poll.specs.Shuffles.{ShuffleSeen}

-- an end that is not there
abbrev pub no_name : PipeName
no_name = record { capacity = 0; views = (0, 0); words = null_ptr; slots = null_ptr }

abbrev pub no_tx : TxSeen
no_tx = record { credits = 0; offered = []; left = []; held = 0; repaid = 0; most_held = 0; finished = false; fault = None; forth = fresh 0; back = fresh 0; forth_name = no_name; back_name = no_name }

abbrev pub no_rx : RxSeen
no_rx = record { credits = 0; given = []; box = []; owed = 0; paid = 0; ungranted = 0; last = 0; finished = false; fault = None; forth = fresh 0; back = fresh 0; forth_name = no_name; back_name = no_name }

abbrev pub tx_at : List TxSeen → ℕ → TxSeen
tx_at links k = slice_index_or links k no_tx

abbrev pub rx_at : List RxSeen → ℕ → RxSeen
rx_at ins j = slice_index_or ins j no_rx

-- the frames offered on link k out
abbrev pub sent_on : ShuffleSeen → ℕ → List Frame
sent_on outs k = slice_index_or (map (λ (l : TxSeen). l.offered) outs.links) k []
