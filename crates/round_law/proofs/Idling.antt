-- A node that waits for its first frame is idle.
use Rattle.std.proofs.Common.{ℕ, zero, suc, ◌<◌, ◌≡◌, false, [], refl, inl, inr, arith}
use Rattle.round_law.specs.Links.{Sender, Receiver, has_finish, FinishIsLast, OpensNoFrame, IsCounted, IsGranted}
use Rattle.round_law.specs.Waits.{Node, in_at, PipeEnd, AnsweredIn, NoneWaits, Waits, IsIdle}
use Rattle.round_law.specs.Waits.PipeEnd.{DataOut, CreditOut, DataIn, CreditIn}
use Rattle.round_law.specs.Rows.{IsOrderly}
use Rattle.round_law.specs.Needed.{receiving, SomeNodeIsIdle}
use Rattle.round_law.proofs.Ends.{no_frame_opens_nothing}
use Rattle.round_law.proofs.Needed.{all_one, all_none, took_none}

abbrev idle_node : Node
idle_node = receiving (took_none [] [] 0)

idle_waits : (end : PipeEnd) → Waits 1 idle_node end → AnsweredIn idle_node idle_node end
idle_waits (DataOut k) (less, some) = absurd (omega arith)
idle_waits (CreditOut k) (less, wants) = absurd (omega arith)
idle_waits (DataIn zero) (less, open_yet, none) = (refl, inr (refl, refl))
idle_waits (DataIn (suc j)) (less, open_yet, none) = absurd (omega arith)
idle_waits (CreditIn zero) (less, some) = absurd (omega arith)
idle_waits (CreditIn (suc j)) (less, some) = absurd (omega arith)

idle_empty : NoneWaits idle_node → (j : ℕ) → j < 1 → has_finish (in_at idle_node j).given ≡ false → OpensNoFrame (in_at idle_node j).box
idle_empty none zero less open_yet = no_frame_opens_nothing
idle_empty none (suc j) less open_yet = absurd (omega arith)

is_idle : IsIdle 1 idle_node idle_node
is_idle = record { waits = (DataIn 0, (omega arith, refl, all_none (λ (s : Sender). s.waiting ≡ 0))); answered = idle_waits; empty = idle_empty }

idle_orderly : IsOrderly idle_node
idle_orderly = record {
  granted = all_one (λ (r : Receiver). IsCounted r.given → IsGranted r) (took_none [] [] 0) (λ few. refl);
  taken = all_one (λ (r : Receiver). FinishIsLast r.given) (took_none [] [] 0) tt;
  offered = all_none (λ (s : Sender). FinishIsLast s.offered);
}

pub some_node_is_idle : SomeNodeIsIdle
some_node_is_idle = (
  idle_node,
  record {
    row = inl (record {
      still = record { read = refl; records = refl; wrote = refl; wrote_all = refl; in_count = refl; out_count = refl; given = λ j less. refl };
      idle = is_idle;
      orderly = idle_orderly;
      few = λ k d less. absurd (omega arith);
    });
    pipes = record { ins = λ j less. record { got = refl; paid = refl }; outs = λ k less. record { put = refl; back = refl } };
  },
  is_idle,
)
