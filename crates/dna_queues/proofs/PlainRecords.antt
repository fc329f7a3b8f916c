-- What links without queues make a node with queues makes by hidden steps that stand at the records.
use Rattle.dna_queues.proofs.Prelude.{◌≡◌, ℕ, Bool, true, false, ◌&&◌, ◌==◌, Option, Some, None, List, [], ◌∷◌, ◌++◌, Result, Ok, Err, refl, sym}
use Rattle.dna_queues.proofs.Prelude.{ap, ◌∙◌, subst, append-nil, NspValue, ConnectAck, NoOperation, ConnectInitiate, DisconnectConfirm, IsInRange}
use Rattle.dna_queues.proofs.Prelude.{LinkRefusal, NoLink, WrongNode, LiveTo, BegunBy, Without, Carried, begun, on_ok, user_step, unchanged, called}
use Rattle.dna_queues.proofs.Prelude.{LinkEventValue, Open, Accept, Reject, Boot, Sent, sent_step, message_sent, of_partner, arrived_step}
use Rattle.dna_queues.proofs.Prelude.{message_arrived, TrueSegments, Numbers, true_segments, SentMessage, looked, checked, LinkRecord, OfUser}
use Rattle.dna_queues.proofs.Prelude.{Sends, Keeps, OfNoLink, links_left, made_without, AreInRange, LateSegments, late_segments, Links, Node}
use Rattle.dna_queues.proofs.Prelude.{dstaddr, is_composed, First, Acts, Composes, Acknowledges, AllActed, new_node, IsFree, EndsCall, MakesStep}
use Rattle.dna_queues.proofs.Prelude.{UserDoes, Boots, SendsComposed, SendsConfirm, SendsNothing, KeepsForLink, KeepsAtOnce, PassesBy, MadeByHidden}
use Rattle.dna_queues.proofs.Prelude.{NoMore, Hides, Makes}
use Rattle.dna_links.specs.TrueLinks as plain
use Rattle.dna_queues.proofs.Facts.{passed_check, same_Ok, same_links}
use Rattle.dna_queues.proofs.{LinkLists.at_found, LinkLists.at_none, PlainSteps.message_too, PlainSteps.came_too}
use Rattle.dna_queues.proofs.Forgotten.{forget_links, begun_forget, there, missing, user_too}

-- nothing waits
abbrev quiet : Links → Node
quiet s = record { links = s; kept = []; composed = [] }

free : (own : ℕ) (s : Links) → IsFree own (quiet s)
free own s = record { nothing_for = refl; nothing_of = λ number e. refl }

-- the step of each event
user_makes : (event : LinkEventValue) (s links : Links) → user_step Without late_segments s event ≡ Ok links →
    MakesStep (quiet s) (OfUser event) (quiet links)
user_makes (Open own) s links does = UserDoes (Open own) links (free own s) does
user_makes (Accept far own) s links does = UserDoes (Accept far own) links (free own s) does
user_makes (Reject far own) s links does = UserDoes (Reject far own) links (free own s) does
user_makes Boot s links does = subst (λ (x : Links). MakesStep (quiet s) (OfUser Boot) (quiet x)) (same_Ok _ links does) Boots
user_makes event s links does = UserDoes event links tt does

ends_call : (z : Bool) (made : Sent LateSegments Numbers) (s : Links) → EndsCall z made (quiet s)
ends_call true made s = λ number e. refl
ends_call false made s = tt

module _ (later : List LinkRecord) (left : plain.Links)
    (rest : (s : Links) → made_without (forget_links s) later ≡ Ok left → MadeByHidden (quiet s) later) where
  -- from the links that both have come to
  on : (s : Links) (t : plain.Links) → forget_links s ≡ t → made_without t later ≡ Ok left → MadeByHidden (quiet s) later
  on s t same e = rest s (ap (λ (x : plain.Links). made_without x later) same ∙ e)

  by_user : (s : Links) (event : LinkEventValue) (r : Result plain.Links LinkRefusal) → plain.links_user Without (forget_links s) event ≡ r →
      on_ok r (λ x. made_without x later) ≡ Ok left → MadeByHidden (quiet s) (OfUser event ∷ later)
  by_user s event (Err refusal) does e = absurd cc
  by_user s event (Ok t) does e =
      let u = user_too s event t does in
      Makes (quiet s) (quiet u.links) (OfUser event) later (user_makes event s u.links u.does) (on u.links t u.same e)

  -- ---- what is sent

  module _ (s : Links) (packet : Carried) (may : (packet.src == s.node && packet.dst == s.peer) ≡ true) where
    sent_is : (made : Sent LateSegments Numbers) → message_sent Without late_segments s packet.message ≡ Ok made →
        sent_step Without late_segments s packet ≡ Ok made
    sent_is made does = passed_check (packet.src == s.node && packet.dst == s.peer) WrongNode _ may ∙ does

    composed_now : (made : Sent TrueSegments Numbers) → is_composed packet.message ≡ true → IsInRange packet.message →
        message_sent Without true_segments (forget_links s) packet.message ≡ Ok made → made_without made.links later ≡ Ok left →
        MadeByHidden (quiet s) (Sends packet ∷ later)
    composed_now made is small does e =
        let t = message_too s packet.message made does in
        let unit : SentMessage = record { packet = packet; truth = t.made.truth } in
        Hides (quiet s) (record { links = t.made.links; kept = []; composed = unit ∷ [] }) (Sends packet ∷ later)
        (Composes unit t.made is small (sent_is t.made t.does) refl)
        (Makes (record { links = t.made.links; kept = []; composed = unit ∷ [] }) (quiet t.made.links) (Sends packet) later
        (SendsComposed unit [] (First unit [])) (on t.made.links made.links t.same e))

    acknowledged_now : (dst : ℕ) (made : Sent TrueSegments Numbers) → packet.message ≡ ConnectAck dst →
        message_sent Without true_segments (forget_links s) (ConnectAck dst) ≡ Ok made → made_without made.links later ≡ Ok left →
        MadeByHidden (quiet s) (Sends packet ∷ later)
    acknowledged_now dst made is does e =
        looked (BegunBy dst) (forget_links s) (Err NoLink) (λ n l. Ok (unchanged true_segments (forget_links s) n l)) (Ok made) does
        (λ none e. absurd cc)
        (λ n l found same. let t = there s (BegunBy dst) n l found in
        let unit : SentMessage = record { packet = packet; truth = (unchanged late_segments s n t.h).truth } in
        Hides (quiet s) (record { links = s; kept = []; composed = unit ∷ [] }) (Sends packet ∷ later)
        (Acknowledges unit dst n t.h is (passed_check (packet.src == s.node && packet.dst == s.peer) WrongNode _ may) t.found.there
        t.found.passed refl)
        (Makes (record { links = s; kept = []; composed = unit ∷ [] }) (quiet s) (Sends packet) later (SendsComposed unit [] (First unit []))
        (on s made.links (same_links _ made same) e)))

    confirmed_now : (dst src reason : ℕ) (made : Sent TrueSegments Numbers) → packet.message ≡ DisconnectConfirm dst src reason →
        message_sent Without true_segments (forget_links s) packet.message ≡ Ok made → made_without made.links later ≡ Ok left →
        MadeByHidden (quiet s) (Sends packet ∷ later)
    confirmed_now dst src reason made is does e =
        let t = message_too s packet.message made does in
        Makes (quiet s) (quiet t.made.links) (Sends packet) later
        (SendsConfirm packet dst src reason t.made is (sent_is t.made t.does) (free src s) (ends_call (src == 0) t.made s))
        (on t.made.links made.links t.same e)

    nothing_now : (octets : List ℕ) (made : Sent TrueSegments Numbers) → packet.message ≡ NoOperation octets →
        message_sent Without true_segments (forget_links s) (NoOperation octets) ≡ Ok made → made_without made.links later ≡ Ok left →
        MadeByHidden (quiet s) (Sends packet ∷ later)
    nothing_now octets made is does e =
        Makes (quiet s) (quiet s) (Sends packet) later
        (SendsNothing packet octets _ is (sent_is _ (ap (message_sent Without late_segments s) is)))
        (on s made.links (same_links _ made does) e)

    by_message : (m : NspValue) (made : Sent TrueSegments Numbers) → packet.message ≡ m → IsInRange packet.message →
        message_sent Without true_segments (forget_links s) packet.message ≡ Ok made → made_without made.links later ≡ Ok left →
        MadeByHidden (quiet s) (Sends packet ∷ later)
    by_message (ConnectAck dst) made is small does e =
        acknowledged_now dst made is (ap (message_sent Without true_segments (forget_links s)) (sym is) ∙ does) e
    by_message (DisconnectConfirm dst src reason) made is small does e = confirmed_now dst src reason made is does e
    by_message (NoOperation octets) made is small does e =
        nothing_now octets made is (ap (message_sent Without true_segments (forget_links s)) (sym is) ∙ does) e
    by_message m made is small does e = composed_now made (ap is_composed is) small does e

  by_sending : (s : Links) (packet : Carried) → IsInRange packet.message → (r : Result (Sent TrueSegments Numbers) LinkRefusal) →
      plain.links_sent Without (forget_links s) packet ≡ r → on_ok (links_left r) (λ x. made_without x later) ≡ Ok left →
      MadeByHidden (quiet s) (Sends packet ∷ later)
  by_sending s packet small (Err refusal) does e = absurd cc
  by_sending s packet small (Ok made) does e =
      let c = checked (packet.src == s.node && packet.dst == s.peer) WrongNode _ made does in
      by_message s packet c.0 packet.message made refl small c.1 e

  -- ---- what is kept

  module _ (s : Links) (unit : SentMessage) (t : plain.Links) (may : (unit.packet.src == s.peer && unit.packet.dst == s.node) ≡ true)
      (e : made_without t later ≡ Ok left) where
    arrived_is : (links : Links) → message_arrived Without late_segments of_partner s unit.packet.message unit.truth ≡ Ok links →
        arrived_step Without late_segments of_partner s unit.packet unit.truth ≡ Ok links
    arrived_is links does = passed_check (unit.packet.src == s.peer && unit.packet.dst == s.node) WrongNode _ may ∙ does

    for_link : (address : ℕ) → dstaddr unit.packet.message ≡ Some address →
        message_arrived Without true_segments of_partner (forget_links s) unit.packet.message unit.truth ≡ Ok t →
        MadeByHidden (quiet s) (Keeps unit ∷ later)
    for_link address is does =
        let u = came_too s unit.truth unit.packet.message t does in
        Makes (quiet s) (record { links = s; kept = unit ∷ []; composed = [] }) (Keeps unit) later
        (KeepsForLink unit address s u.links is (AllActed (quiet s) refl) (arrived_is u.links u.does))
        (Hides (record { links = s; kept = unit ∷ []; composed = [] }) (quiet u.links) later
        (Acts unit [] u.links (First unit []) (arrived_is u.links u.does)) (on u.links t u.same e))

    still : dstaddr unit.packet.message ≡ None → message_arrived Without late_segments of_partner s unit.packet.message unit.truth ≡ Ok s →
        forget_links s ≡ t → MadeByHidden (quiet s) (Keeps unit ∷ later)
    still is does same =
        Makes (quiet s) (quiet (record s { links = s.links ++ [] })) (Keeps unit) later
        (KeepsAtOnce unit s s [] is (AllActed (quiet s) refl) (arrived_is s does) (sym (append-nil s.links)))
        (subst (λ (xs : List _). MadeByHidden (quiet (record s { links = xs })) later) (sym (append-nil s.links)) (on s t same e))

    for_none : (m : NspValue) → unit.packet.message ≡ m → dstaddr m ≡ None →
        message_arrived Without true_segments of_partner (forget_links s) m unit.truth ≡ Ok t → MadeByHidden (quiet s) (Keeps unit ∷ later)
    for_none (ConnectInitiate retransmitted src services info segsize user_data) is none does =
        looked (LiveTo src) (forget_links s) (Ok (begun (called true_segments of_partner src segsize unit.truth.tag) (forget_links s)))
        (λ n l. Ok (forget_links s)) (Ok t) does
        (λ free same. let u = came_too s unit.truth (ConnectInitiate retransmitted src services info segsize user_data) t does in
        let k = called late_segments of_partner src segsize unit.truth.tag in
        Makes (quiet s) (quiet (begun k s)) (Keeps unit) later
        (KeepsAtOnce unit s (begun k s) (k ∷ []) (ap dstaddr is) (AllActed (quiet s) refl)
        (arrived_is (begun k s) (ap (λ (x : NspValue). message_arrived Without late_segments of_partner s x unit.truth) is
        ∙ at_none (LiveTo src) s _ _ (missing s (LiveTo src) free))) refl)
        (on (begun k s) t (begun_forget k s ∙ same_Ok _ t same) e))
        (λ n l found same. let h = there s (LiveTo src) n l found in
        still (ap dstaddr is)
        (ap (λ (x : NspValue). message_arrived Without late_segments of_partner s x unit.truth) is ∙ at_found (LiveTo src) s n h.h _ _ h.found)
        (same_Ok _ t same))
    for_none (ConnectAck dst) is none does =
        still (ap dstaddr is) (ap (λ (x : NspValue). message_arrived Without late_segments of_partner s x unit.truth) is) (same_Ok _ t does)
    for_none (NoOperation octets) is none does =
        still (ap dstaddr is) (ap (λ (x : NspValue). message_arrived Without late_segments of_partner s x unit.truth) is) (same_Ok _ t does)
    for_none m is none does = absurd cc

    by_address : (o : Option ℕ) → dstaddr unit.packet.message ≡ o →
        message_arrived Without true_segments of_partner (forget_links s) unit.packet.message unit.truth ≡ Ok t →
        MadeByHidden (quiet s) (Keeps unit ∷ later)
    by_address None is does = for_none unit.packet.message refl is does
    by_address (Some address) is does = for_link address is does

  by_keeping : (s : Links) (unit : SentMessage) (r : Result plain.Links LinkRefusal) →
      plain.links_arrived Without of_partner (forget_links s) unit.packet unit.truth ≡ r → on_ok r (λ x. made_without x later) ≡ Ok left →
      MadeByHidden (quiet s) (Keeps unit ∷ later)
  by_keeping s unit (Err refusal) does e = absurd cc
  by_keeping s unit (Ok t) does e =
      let c = checked (unit.packet.src == s.peer && unit.packet.dst == s.node) WrongNode _ t does in
      by_address s unit t c.0 e _ refl c.1

plain_from : (made : List LinkRecord) (left : plain.Links) (s : Links) → AreInRange made → made_without (forget_links s) made ≡ Ok left →
    MadeByHidden (quiet s) made
plain_from [] left s small e = NoMore (quiet s)
plain_from (OfUser event ∷ later) left s small e = by_user later left (λ x f. plain_from later left x small f) s event _ refl e
plain_from (Sends packet ∷ later) left s small e = by_sending later left (λ x f. plain_from later left x small.1 f) s packet small.0 _ refl e
plain_from (Keeps unit ∷ later) left s small e = by_keeping later left (λ x f. plain_from later left x small f) s unit _ refl e
plain_from (OfNoLink ∷ later) left s small e =
    Makes (quiet s) (quiet s) OfNoLink later PassesBy (plain_from later left s small e)

pub plain_made : (node peer : ℕ) (made : List LinkRecord) (left : plain.Links) → made_without (plain.new_links node peer) made ≡ Ok left →
    AreInRange made → MadeByHidden (new_node node peer) made
plain_made node peer made left e small = plain_from made left (new_node node peer).links small e
