-- The worked lists, step by step.
use Rattle.dna_queues.proofs.Prelude.{None, [], Result, Ok, Err, refl, arith, LinkRefusal, Without, no_links, user_step, Open, Abort, Sent}
use Rattle.dna_queues.proofs.Prelude.{sent_step, of_partner, arrived_step, Numbers, SentMessage, MadeByMachine, LateSegments, late_segments, Links}
use Rattle.dna_queues.proofs.Prelude.{First, Acts, Composes, AllActed, new_node, UserDoes, SendsComposed, KeepsForLink, MadeByHidden, NoMore, Hides}
use Rattle.dna_queues.proofs.Prelude.{Makes, call, confirmation, acknowledgement, closing, worked, waited, given_up}
use Rattle.dna_links.specs.TrueLinks as machine

abbrev nothing_sent : Sent LateSegments Numbers
nothing_sent = record {
  links = no_links 0 0;
  truth = record { tag = record { link = None; partner = None }; known = late_segments.sends_other late_segments.empty };
}

abbrev made_of : Result (Sent LateSegments Numbers) LinkRefusal → Sent LateSegments Numbers
made_of (Ok made) = made
made_of (Err refusal) = nothing_sent

abbrev links_of : Result Links LinkRefusal → Links
links_of (Ok s) = s
links_of (Err refusal) = no_links 0 0

abbrev opened_links : Links
opened_links = links_of (user_step Without late_segments (no_links 1 2) (Open 7))

abbrev called : Sent LateSegments Numbers
called = made_of (sent_step Without late_segments opened_links call)

abbrev running_links : Links
running_links = links_of (arrived_step Without late_segments of_partner opened_links confirmation.packet confirmation.truth)

abbrev acknowledged : Sent LateSegments Numbers
acknowledged = made_of (sent_step Without late_segments running_links acknowledgement)

abbrev call_unit : SentMessage
call_unit = record { packet = call; truth = called.truth }

abbrev acknowledgement_unit : SentMessage
acknowledgement_unit = record { packet = acknowledgement; truth = acknowledged.truth }

pub worked_made : MadeByHidden (new_node 1 2) worked
worked_made =
    Makes _ _ _ _ (UserDoes (Open 7) opened_links (record { nothing_for = refl; nothing_of = λ number e. absurd cc }) refl)
    (Hides _ _ _ (Composes call_unit called refl tt refl refl)
    (Makes _ _ _ _ (SendsComposed call_unit [] (First call_unit []))
    (Makes _ _ _ _ (KeepsForLink confirmation 7 opened_links running_links refl (AllActed _ refl) refl)
    (Hides _ _ _ (Acts confirmation [] running_links (First confirmation []) refl)
    (Hides _ _ _ (Composes acknowledgement_unit acknowledged refl ((omega arith, tt), omega arith) refl refl)
    (Makes _ _ _ _ (KeepsForLink closing 7 acknowledged.links
    (links_of (arrived_step Without late_segments of_partner acknowledged.links closing.packet closing.truth)) refl (AllActed _ refl) refl)
    (Makes _ _ _ _ (SendsComposed acknowledgement_unit [] (First acknowledgement_unit [])) (NoMore _))))))))

pub worked_by_machine : MadeByMachine (machine.new_links 1 2) worked
worked_by_machine = (_, refl, (_, refl, (_, refl, (_, refl, (_, refl, tt)))))

pub waited_made : MadeByHidden (new_node 1 2) waited
waited_made =
    Makes _ _ _ _ (UserDoes (Open 7) opened_links (record { nothing_for = refl; nothing_of = λ number e. absurd cc }) refl)
    (Hides _ _ _ (Composes call_unit called refl tt refl refl)
    (Makes _ _ _ _ (UserDoes (Abort 7) (links_of (user_step Without late_segments opened_links (Abort 7))) tt refl)
    (Makes _ _ _ _ (SendsComposed call_unit [] (First call_unit [])) (NoMore _))))

pub waited_by_machine : MadeByMachine (machine.new_links 1 2) waited
waited_by_machine = (_, refl, (_, refl, (_, refl, tt)))

pub given_up_made : MadeByHidden (new_node 1 2) given_up
given_up_made =
    Makes _ _ _ _ (UserDoes (Open 7) opened_links (record { nothing_for = refl; nothing_of = λ number e. absurd cc }) refl)
    (Hides _ _ _ (Composes call_unit called refl tt refl refl)
    (Makes _ _ _ _ (SendsComposed call_unit [] (First call_unit []))
    (Makes _ _ _ _ (KeepsForLink confirmation 7 opened_links running_links refl (AllActed _ refl) refl)
    (Makes _ _ _ _ (UserDoes (Abort 7) (links_of (user_step Without late_segments opened_links (Abort 7))) tt refl) (NoMore _)))))
