use Rattle.accusing_segments.proofs.Prelude.{refl}
use Rattle.accusing_segments.proofs.{Known.message_found, NotedAfter.first_unchanged}
use Rattle.accusing_segments.proofs.segment_accuser.SegmentAccuser.sends.Goals as goal

pub returns-in-ConnectAck-clause-firsts : goal.returns-in-ConnectAck-clause-firsts
returns-in-ConnectAck-clause-firsts c =
    first_unchanged c.args.self.now.noted.firsts c.args.unit.now _
    (message_found c.message_in.result c.in-Some.message _ c.args.unit.now c.message_in.ensures c.in-Some.is c.in-ConnectAck.is) (λ o f n. refl)

pub returns-in-NoOperation-clause-firsts : goal.returns-in-NoOperation-clause-firsts
returns-in-NoOperation-clause-firsts c =
    first_unchanged c.args.self.now.noted.firsts c.args.unit.now _
    (message_found c.message_in.result c.in-Some.message _ c.args.unit.now c.message_in.ensures c.in-Some.is c.in-NoOperation.is) (λ o f n. refl)

pub returns-in-ConnectInitiate-clause-firsts : goal.returns-in-ConnectInitiate-clause-firsts
returns-in-ConnectInitiate-clause-firsts c =
    first_unchanged c.args.self.now.noted.firsts c.args.unit.now _
    (message_found c.message_in.result c.in-Some.message _ c.args.unit.now c.message_in.ensures c.in-Some.is c.in-ConnectInitiate.is) (λ o f n. refl)

pub returns-in-ConnectConfirm-clause-firsts : goal.returns-in-ConnectConfirm-clause-firsts
returns-in-ConnectConfirm-clause-firsts c =
    first_unchanged c.args.self.now.noted.firsts c.args.unit.now _
    (message_found c.message_in.result c.in-Some.message _ c.args.unit.now c.message_in.ensures c.in-Some.is c.in-ConnectConfirm.is) (λ o f n. refl)

pub returns-in-DisconnectInitiate-clause-firsts : goal.returns-in-DisconnectInitiate-clause-firsts
returns-in-DisconnectInitiate-clause-firsts c =
    first_unchanged c.args.self.now.noted.firsts c.args.unit.now _
    (message_found c.message_in.result c.in-Some.message _ c.args.unit.now c.message_in.ensures c.in-Some.is c.in-DisconnectInitiate.is)
    (λ o f n. refl)

pub returns-in-DisconnectConfirm-clause-firsts : goal.returns-in-DisconnectConfirm-clause-firsts
returns-in-DisconnectConfirm-clause-firsts c =
    first_unchanged c.args.self.now.noted.firsts c.args.unit.now _
    (message_found c.message_in.result c.in-Some.message _ c.args.unit.now c.message_in.ensures c.in-Some.is c.in-DisconnectConfirm.is)
    (λ o f n. refl)
