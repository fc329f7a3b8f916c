-- The rules of logical links, as tables to be laid beside the standard (NSP 4.0, session control interface, port states, message formats). A
-- row says what is asked, in this order, and then what is done. What its words mean is in `LinkBook`, which link passes a test in `LookUps`.
-- SERVICES, INFO, REASON and user data are never judged. Where the standard leaves a choice on what comes the table is the project's own: what is
-- not named changes nothing, and a message that is acted on is of this pair of links, which no byte tells.
use Rattle.std.specs.Prelude.{ℕ, Bool, ◌==◌, Option, Some, None, List, [], ◌∷◌}
use Rattle.dna_packet.specs.declared.ack_word.AckWord.{AckWord}
use Rattle.dna_packet.specs.Nsp.{SegmentValue, NspValue, DataSegment, LinkService, DataAck, OtherDataAck, ConnectAck, NoOperation, ConnectInitiate}
use Rattle.dna_packet.specs.Nsp.{ConnectConfirm, DisconnectInitiate, DisconnectConfirm}
use Rattle.dna_station.specs.declared.link_refusal.LinkRefusal.{LinkRefusal}
use Rattle.dna_station.specs.declared.link_refusal.LinkRefusal.TheVariants.{NoLink, LinkState, WrongDelivery, AddressInUse, CrossedLink}
use Rattle.dna_links.specs.declared.port.Phase.{Phase}
use Rattle.dna_links.specs.declared.port.Phase.TheVariants.{Calling, Confirming, Running, Disconnecting}
use Rattle.dna_links.specs.declared.port.LinkTest.{LinkTest}
use Rattle.dna_links.specs.declared.port.LinkTest.TheVariants.{HasAddress, LiveAt, TheLink, LiveTo, OpenedAt, CallingAt, CalledBy, BegunBy, ActedOn}
use Rattle.dna_links.specs.declared.queue.Said.{Said}
use Rattle.dna_links.specs.declared.queue.Said.TheVariants.{OfRun, Disconnect}
use Rattle.dna_links.specs.LookUps.{is_calling, is_connected, takes_messages}
use Rattle.dna_links.specs.User.{LinkEventValue, Open, Accept, Reject, In, Up, Close, Abort, Boot}

-- What is done with the link, or where none was found with one that begins
pub data Effect : Type 0 where
  OpenHere : Effect  -- it is opened here, in Calling
  GiveAddress : (own : ℕ) → Effect  -- it gets this address, and a link that had it forgets it
  Connect : (far segsize : ℕ) → Effect  -- its partner is the sender, with this address and SEGSIZE
  GoTo : Phase → Effect
  End : Effect  -- it is over, by what came
  Drop : Effect  -- it is over, and nothing of it waits but the CI of a call that was opened here
  EndAll : Effect  -- all links are over, and none has an address any more
  Say : Said → Effect  -- it has come so far in what it sends
  Keep : Effect  -- what becomes of its segments as was asked is kept
  HandIn : (message : List ℕ) → Effect
  TakeSegment : SegmentValue → Effect
  TakeAcks : List AckWord → Effect
  Settle : (own : ℕ) → Effect  -- what came for the link with this address was acted on

-- What is asked. Where it is not so this refuses, or at None nothing is done
pub data Ask : Type 0 where
  Finds : LinkTest → Option LinkRefusal → Ask  -- a link passes: the row is of the first that does
  FindsEither : (first second : LinkTest) → Option LinkRefusal → Ask  -- the same by one of two tests
  FindsNone : LinkTest → Option LinkRefusal → Ask  -- no link passes
  FindsInUse : LinkTest → LinkRefusal → Ask  -- a link passes, as its user and what is sent find it
  KnowsInUse : LinkTest → LinkRefusal → Ask  -- so does one, and of a link that has ended the row is not
  InPhase : (Phase → Bool) → LinkRefusal → Ask  -- the link is in one of these phases
  InTurn : Phase → LinkRefusal → Ask  -- a message that asks for this phase may be sent
  OrElse : Bool → List Effect → Ask  -- this is so; else these effects alone
  ForThisLink : LinkRefusal → Ask  -- the message is of a link whose partner is this one
  OfThisPair : LinkRefusal → Ask  -- and that link is the partner of this one
  Delivers : (message : List ℕ) → LinkRefusal → Ask  -- it is the link's next whole message
  SendsSegment : SegmentValue → Ask  -- its words (21), room (23), length (22), and that it is the next piece or a true repeat (20)
  SendsAcks : List AckWord → Ask  -- they name what they may (21)

pub data Row : Type 0 where
  Asks : List Ask → List Effect → Row

-- a link is found, in one of these phases, or in the turn of this one
abbrev pub found_in : LinkTest → (Phase → Bool) → List Ask
found_in test phases = FindsInUse test NoLink ∷ InPhase phases LinkState ∷ []

abbrev pub in_turn : LinkTest → Phase → List Ask → List Ask
in_turn test phase next = FindsInUse test NoLink ∷ InTurn phase LinkState ∷ next

-- what the user does
abbrev pub user_row : LinkEventValue → Row
user_row (Open own) = Asks (FindsNone (LiveAt own) (Some AddressInUse) ∷ []) (GiveAddress own ∷ OpenHere ∷ [])
user_row (Accept far own) =
    Asks (Finds (CalledBy far) (Some NoLink) ∷ FindsNone (LiveAt own) (Some AddressInUse) ∷ []) (GiveAddress own ∷ GoTo Confirming ∷ [])
user_row (Reject far own) =
    Asks (Finds (CalledBy far) (Some NoLink) ∷ FindsNone (LiveAt own) (Some AddressInUse) ∷ []) (GiveAddress own ∷ GoTo Disconnecting ∷ [])
user_row (In own message) = Asks (found_in (LiveAt own) takes_messages) (HandIn message ∷ [])
user_row (Up own message) = Asks (Finds (HasAddress own) (Some NoLink) ∷ Delivers message WrongDelivery ∷ []) (Keep ∷ [])
user_row (Close own) = Asks (found_in (LiveAt own) is_connected) (GoTo Disconnecting ∷ [])
user_row (Abort own) = Asks (found_in (LiveAt own) is_calling) (Drop ∷ [])
user_row Boot = Asks [] (EndAll ∷ [])

-- a message that is to be sent
abbrev pub sending_row : NspValue → Row
sending_row (ConnectInitiate retransmitted src services info segsize user_data) = Asks (in_turn (OpenedAt src) Calling []) []
sending_row (ConnectAck dst) = Asks (KnowsInUse (BegunBy dst) NoLink ∷ []) []
sending_row (ConnectConfirm dst src services info segsize user_data) = Asks (in_turn (TheLink src dst) Confirming []) []
sending_row (DisconnectInitiate dst src reason user_data) = Asks (in_turn (TheLink src dst) Disconnecting []) (Say Disconnect ∷ [])
sending_row (DisconnectConfirm dst src reason) =
    Asks (FindsNone (TheLink src dst) (Some LinkState) ∷ OrElse (src == 0) (Settle src ∷ []) ∷ Finds (CalledBy dst) None ∷ []) (Drop ∷ [])
sending_row (DataSegment segment) =
    Asks (in_turn (TheLink segment.srcaddr segment.dstaddr) Running (SendsSegment segment ∷ [])) (Say OfRun ∷ Keep ∷ [])
sending_row (DataAck dst src acks) = Asks (in_turn (TheLink src dst) Running (SendsAcks acks ∷ [])) (Say OfRun ∷ Keep ∷ [])
sending_row (LinkService interrupt dst src rest) = Asks (in_turn (TheLink src dst) Running []) (Say OfRun ∷ [])
sending_row (OtherDataAck dst src rest) = Asks (in_turn (TheLink src dst) Running []) (Say OfRun ∷ [])
sending_row (NoOperation rest) = Asks [] []

-- a segment or acknowledgement words: in Confirming or RUN
abbrev pub acted_row : (own far : ℕ) → List Effect → Row
acted_row own far effects = Asks (Finds (ActedOn own far) None ∷ OfThisPair CrossedLink ∷ []) (GoTo Running ∷ effects)

-- a message that comes
abbrev pub arrival_row : NspValue → Row
arrival_row (ConnectInitiate retransmitted src services info segsize user_data) = Asks (FindsNone (LiveTo src) None ∷ []) (Connect src segsize ∷ [])
arrival_row (ConnectConfirm dst src services info segsize user_data) =
    Asks (Finds (CallingAt dst) None ∷ ForThisLink CrossedLink ∷ []) (Connect src segsize ∷ GoTo Running ∷ [])
arrival_row (DisconnectInitiate dst src reason user_data) = Asks (FindsEither (TheLink dst src) (CallingAt dst) None ∷ []) (End ∷ [])
arrival_row (DisconnectConfirm dst src reason) = Asks (FindsEither (TheLink dst src) (CallingAt dst) None ∷ []) (End ∷ [])
arrival_row (DataSegment segment) = acted_row segment.dstaddr segment.srcaddr (TakeSegment segment ∷ [])
arrival_row (DataAck dst src acks) = acted_row dst src (TakeAcks acks ∷ [])
arrival_row (LinkService interrupt dst src rest) = acted_row dst src []
arrival_row (OtherDataAck dst src rest) = acted_row dst src []
arrival_row m = Asks [] []
