use Rattle.placing.proofs.Bare as bare
use Rattle.placing.proofs.laws.counts_ask_no_packet.Goals as goal

pub returns : goal.returns
returns c = record {
  may_send = bare.refusal_bare;
  sent = bare.sending_bare;
  may_come = λ again rule s m tag kept. bare.coming_bare again s rule m tag kept;
  arrived = bare.arrival_bare;
}
