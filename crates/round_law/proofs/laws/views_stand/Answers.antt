use Rattle.round_law.proofs.Views.{tx_is_sender, rx_is_receiver, rx_is_granted, part_opens_none, part_is_short, answered_again, tx_pump_rests, rx_pump_rests, tx_looks, rx_looks, looked_is_joined}
use Rattle.round_law.proofs.laws.views_stand.Goals as goal

pub returns-clause-sender : goal.returns-clause-sender
returns-clause-sender c = tx_is_sender

pub returns-clause-receiver : goal.returns-clause-receiver
returns-clause-receiver c = rx_is_receiver

pub returns-clause-granted : goal.returns-clause-granted
returns-clause-granted c = rx_is_granted

pub returns-clause-none : goal.returns-clause-none
returns-clause-none c = part_opens_none

pub returns-clause-tx_rests : goal.returns-clause-tx_rests
returns-clause-tx_rests c = tx_pump_rests

pub returns-clause-rx_rests : goal.returns-clause-rx_rests
returns-clause-rx_rests c = rx_pump_rests

pub returns-clause-tx_looks : goal.returns-clause-tx_looks
returns-clause-tx_looks c = tx_looks

pub returns-clause-rx_looks : goal.returns-clause-rx_looks
returns-clause-rx_looks c = rx_looks

pub returns-clause-joined : goal.returns-clause-joined
returns-clause-joined c = looked_is_joined

pub returns-clause-short : goal.returns-clause-short
returns-clause-short c = part_is_short

pub returns-clause-again : goal.returns-clause-again
returns-clause-again c = answered_again
