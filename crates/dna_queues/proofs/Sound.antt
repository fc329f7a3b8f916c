-- Whatever records the machine makes a node with queues makes too, by hidden steps.
use Rattle.dna_queues.proofs.Prelude.{◌≡◌, ℕ, true, ◌&&◌, ◌==◌, Some, None, List, [], ◌∷◌, ◌++◌, Result, Ok, Err, refl, sym, ap, ◌∙◌, subst}
use Rattle.dna_queues.proofs.Prelude.{append-nil, NspValue, ConnectAck, NoOperation, ConnectInitiate, DisconnectConfirm, IsInRange, LinkRefusal}
use Rattle.dna_queues.proofs.Prelude.{WrongNode, LiveTo, Without, With, Carried, number_of, begun, called, LinkEventValue, Open, Accept, Reject, In}
use Rattle.dna_queues.proofs.Prelude.{Up, Close, Abort, Boot, Sent, message_sent, of_partner, arrived_step, message_arrived, TrueSegments, Numbers}
use Rattle.dna_queues.proofs.Prelude.{true_segments, SentMessage, looked, checked, LinkRecord, OfUser, Sends, Keeps, OfNoLink, links_left}
use Rattle.dna_queues.proofs.Prelude.{MadeByMachine, AreInRange, EventsAreInRange, late_segments, Links, Node, dstaddr, link_it_is_for, new_node}
use Rattle.dna_queues.proofs.Prelude.{KeepsAtOnce, PassesBy, MadeByHidden, NoMore, Makes}
use Rattle.dna_links.specs.User as user
use Rattle.dna_links.specs.TrueLinks as machine
use Rattle.dna_queues.proofs.Facts.{passed_check, same_Ok, by_option}
use Rattle.dna_queues.proofs.{Lists.waiting_none, LinkLists.at_none, Goes.Link, Goes.phase_of, MachineSends.is_of_link, Dues.Due, Dues.AreSane}
use Rattle.dna_queues.proofs.{Timed.Timed, SentTimed.Sound, SentTimed.sent_sound, UserTimed.in_sound, ClosedTimed.close_sound}
use Rattle.dna_queues.proofs.{AbortTimed.abort_sound, DeliveredTimed.up_sound, Addressed.awaits_nothing, ConfirmTimed.confirm_sound}
use Rattle.dna_queues.proofs.{ConfirmTimed.nothing_sound, KeptTimed.for_link_sound}
use Rattle.dna_queues.proofs.Early.{CanGo, AreEarly, none_refused}
use Rattle.dna_queues.proofs.BootTimed.{none_due, none_are_due, boot_sound}
use Rattle.dna_queues.proofs.BegunTimed.{begun_sane, begun_due, begun_timed}
use Rattle.dna_queues.proofs.AnsweredTimed.{opens_sound, accepts_sound, rejects_sound}
use Rattle.dna_queues.proofs.AllTimed.{all_come, all_number, all_may}

module _ (s : machine.Links) (sane : AreSane s) (later : List LinkRecord) where
  -- ---- what is kept for no link

  module _ (unit : SentMessage) (none : dstaddr unit.packet.message ≡ None)
      (may : (unit.packet.src == s.peer && unit.packet.dst == s.node) ≡ true) where
    arrives : (dues : ℕ → Due) (n : Node) (t : Timed s dues n) (links : Links) →
        message_arrived Without late_segments of_partner (all_come s sane dues n t).links unit.packet.message unit.truth ≡ Ok links →
        arrived_step Without late_segments of_partner (all_come s sane dues n t).links unit.packet unit.truth ≡ Ok links
    arrives dues n t links does =
        let all = all_come s sane dues n t in
        passed_check (unit.packet.src == all.links.peer && unit.packet.dst == all.links.node) WrongNode
        (message_arrived Without late_segments of_partner all.links unit.packet.message unit.truth) (all_may s sane dues n t unit may) ∙ does

    still_sound : Sound s later → ((dues : ℕ → Due) (n : Node) (t : Timed s dues n) →
        message_arrived Without late_segments of_partner (all_come s sane dues n t).links unit.packet.message unit.truth
        ≡ Ok (all_come s sane dues n t).links) → Sound s (Keeps unit ∷ later)
    still_sound r does = record {
      dues = r.dues;
      due = r.due;
      made = λ n t. let all = all_come s sane r.dues n t in
          Makes n (record n { links = record n.links { links = n.links.links ++ [] } }) (Keeps unit) later
          (KeepsAtOnce unit all.links all.links [] none all.comes (arrives r.dues n t all.links (does r.dues n t)) (sym (append-nil all.links.links)))
          (subst (λ xs. MadeByHidden (record n { links = record n.links { links = xs } }) later) (sym (append-nil n.links.links)) (r.made n t));
    }

    for_none : (m : NspValue) → unit.packet.message ≡ m → dstaddr m ≡ None → (left : machine.Links) →
        message_arrived With true_segments of_partner s m unit.truth ≡ Ok left → (AreSane left → Sound left later) → Sound s (Keeps unit ∷ later)
    for_none (ConnectInitiate retransmitted src services info segsize user_data) is for_it left e rest =
        looked (LiveTo src) s (Ok (begun (called true_segments of_partner src segsize unit.truth.tag) s)) (λ n l. Ok s) (Ok left) e
        (λ free e. begins free (subst (λ (x : machine.Links). AreSane x → Sound x later) (sym (same_Ok _ left e)) rest
        (begun_sane s (called true_segments of_partner src segsize unit.truth.tag) sane (record {
          began = (refl, refl);
          opened = λ e. absurd cc;
          called = λ e. (refl, refl);
          waits = λ p e. absurd cc;
        }) refl (λ i x n at own_x own_k. absurd cc))))
        (λ i l found e. still_sound (subst (λ (x : machine.Links). AreSane x → Sound x later) (sym (same_Ok _ left e)) rest sane)
        (λ dues n t. ap (λ (x : NspValue). message_arrived Without late_segments of_partner (all_come s sane dues n t).links x unit.truth) is
        ∙ looked (LiveTo src) (all_come s sane dues n t).links
        (Ok (begun (called late_segments of_partner src segsize unit.truth.tag) (all_come s sane dues n t).links))
        (λ j h. Ok (all_come s sane dues n t).links) _ refl
        (λ missing f. let never : None ≡ Some i = sym missing ∙ all_number s sane dues n t (LiveTo src) ∙ found.found in absurd cc)
        (λ j h other f. sym f)))
      where
        none_early : (packets : List Carried) (P : Link → Type 0) →
            AreEarly (phase_of (called true_segments of_partner src segsize unit.truth.tag)) packets →
            CanGo s.node s.peer packets (called true_segments of_partner src segsize unit.truth.tag) P → packets ≡ []
        none_early packets P early can =
            none_refused s.node s.peer packets (called true_segments of_partner src segsize unit.truth.tag) P
            (record { opened = refl; accepted = refl; ran = refl }) early can

        begins : number_of (LiveTo src) s ≡ None →
            Sound (begun (called true_segments of_partner src segsize unit.truth.tag) s) later → Sound s (Keeps unit ∷ later)
        begins free r =
            let k = called true_segments of_partner src segsize unit.truth.tag in
            let h = called late_segments of_partner src segsize unit.truth.tag in
            record {
              dues = r.dues;
              due = begun_due s k none_early r.dues r.due;
              made = λ n t. let all = all_come s sane r.dues n t in
                  Makes n (record n { links = begun h n.links }) (Keeps unit) later
                  (KeepsAtOnce unit all.links (begun h all.links) (h ∷ []) none all.comes
                  (arrives r.dues n t (begun h all.links)
                  (ap (λ (x : NspValue). message_arrived Without late_segments of_partner all.links x unit.truth) is
                  ∙ at_none (LiveTo src) all.links _ _ (all_number s sane r.dues n t (LiveTo src) ∙ free))) refl)
                  (r.made (record n { links = begun h n.links })
                  (begun_timed s k none_early r.dues r.due n t (awaits_nothing k _ refl (waiting_none link_it_is_for n.kept))));
            }
    for_none (ConnectAck dst) is for_it left e rest =
        still_sound (subst (λ (x : machine.Links). AreSane x → Sound x later) (sym (same_Ok _ left e)) rest sane)
        (λ dues n t. ap (λ (x : NspValue). message_arrived Without late_segments of_partner (all_come s sane dues n t).links x unit.truth) is)
    for_none (NoOperation octets) is for_it left e rest =
        still_sound (subst (λ (x : machine.Links). AreSane x → Sound x later) (sym (same_Ok _ left e)) rest sane)
        (λ dues n t. ap (λ (x : NspValue). message_arrived Without late_segments of_partner (all_come s sane dues n t).links x unit.truth) is)
    for_none m is for_it left e rest = absurd cc

  -- ---- each record

  module _ (left : machine.Links) (rest : AreSane left → Sound left later) where
    by_user : (event : LinkEventValue) → user.IsInRange event → machine.links_user With s event ≡ Ok left → Sound s (OfUser event ∷ later)
    by_user (Open own) small e = opens_sound s sane later left rest own small e
    by_user (Accept far own) small e = accepts_sound s sane later left rest far own small.1 e
    by_user (Reject far own) small e = rejects_sound s sane later left rest far own small.1 e
    by_user (In own message) small e = in_sound s sane later left rest own message e
    by_user (Up own message) small e = up_sound s sane later left rest own message e
    by_user (Close own) small e = close_sound s sane later left rest own e
    by_user (Abort own) small e = abort_sound s sane later left rest own e
    by_user Boot small e = boot_sound s sane later left rest e

    by_sending : (packet : Carried) → IsInRange packet.message → links_left (machine.links_sent With s packet) ≡ Ok left →
        Sound s (Sends packet ∷ later)
    by_sending packet small e = go (machine.links_sent With s packet) refl e
      where
        by_message : (made : Sent TrueSegments Numbers) → (packet.src == s.node && packet.dst == s.peer) ≡ true → (m : NspValue) →
            packet.message ≡ m → message_sent With true_segments s packet.message ≡ Ok made → (AreSane made.links → Sound made.links later) →
            Sound s (Sends packet ∷ later)
        by_message made may (DisconnectConfirm dst src reason) is e rest =
            confirm_sound s sane later packet may made rest dst src reason is (sym (ap (message_sent With true_segments s) is) ∙ e)
        by_message made may (NoOperation octets) is e rest =
            nothing_sound s sane later packet may made rest octets is (sym (ap (message_sent With true_segments s) is) ∙ e)
        by_message made may m is e rest = sent_sound s sane later packet made (ap is_of_link is) small may e rest

        go : (r : Result (Sent TrueSegments Numbers) LinkRefusal) → machine.links_sent With s packet ≡ r → links_left r ≡ Ok left →
            Sound s (Sends packet ∷ later)
        go (Err refusal) is e = absurd cc
        go (Ok made) is e =
            let c = checked (packet.src == s.node && packet.dst == s.peer) WrongNode _ made is in
            by_message made c.0 packet.message refl c.1
            (subst (λ (x : machine.Links). AreSane x → Sound x later) (sym (same_Ok made.links left e)) rest)

    by_keeping : (unit : SentMessage) → machine.links_arrived With of_partner s unit.packet unit.truth ≡ Ok left → Sound s (Keeps unit ∷ later)
    by_keeping unit e =
        let c = checked (unit.packet.src == s.peer && unit.packet.dst == s.node) WrongNode _ left e in
        by_option (dstaddr unit.packet.message) (λ none. for_none unit none c.0 unit.packet.message refl none left c.1 rest)
        (λ address is. for_link_sound s sane unit address is c.0 left c.1 later rest)

-- ---- all of them

sound_from : (made : List LinkRecord) (s : machine.Links) → AreSane s → AreInRange made → EventsAreInRange made → MadeByMachine s made → Sound s made
sound_from [] s sane small events by_machine = record {
  dues = none_due s;
  due = none_are_due s;
  made = λ n t. NoMore n;
}
sound_from (OfUser event ∷ later) s sane small events m =
    by_user s sane later m.0 (λ x. sound_from later m.0 x small events.1 m.2) event events.0 m.1
sound_from (Sends packet ∷ later) s sane small events m =
    by_sending s sane later m.0 (λ x. sound_from later m.0 x small.1 events m.2) packet small.0 m.1
sound_from (Keeps unit ∷ later) s sane small events m =
    by_keeping s sane later m.0 (λ x. sound_from later m.0 x small events m.2) unit m.1
sound_from (OfNoLink ∷ later) s sane small events m =
    go m.0 (same_Ok s m.0 m.1) (λ x. sound_from later m.0 x small events m.2)
  where
    go : (left : machine.Links) → s ≡ left → (AreSane left → Sound left later) → Sound s (OfNoLink ∷ later)
    go left same rest =
        let r = subst (λ (x : machine.Links). AreSane x → Sound x later) (sym same) rest sane in
        record { dues = r.dues; due = r.due; made = λ n t. Makes n n OfNoLink later PassesBy (r.made n t) }

pub sound : (node peer : ℕ) (made : List LinkRecord) → AreInRange made → EventsAreInRange made →
    MadeByMachine (machine.new_links node peer) made → MadeByHidden (new_node node peer) made
sound node peer made small events by_machine =
    let r = sound_from made (machine.new_links node peer) (record {
      unique = λ i j l k at_i at_j n own_l own_k. absurd cc;
      each = λ i l at. absurd cc;
      not_zero = λ i l at. absurd cc;
    }) small events by_machine in
    r.made (new_node node peer) (record {
      node = refl;
      peer = refl;
      size = refl;
      all = λ i l at. absurd cc;
      went = λ i l at. absurd cc;
      kept = tt;
      awaits = λ i l at. absurd cc;
      composed = λ i. sym (r.due.beyond i refl);
    })
