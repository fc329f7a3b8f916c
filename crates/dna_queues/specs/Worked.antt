-- A link is closed from the other side while an acknowledgement that it has composed waits to be sent; a call is given up while its CI waits; and one
-- while its answer waits to be acted on.
use Rattle.std.specs.Prelude.{false, Some, List, [], ◌∷◌}
use Rattle.dna_packet.specs.declared.ack_word.AckQualifier.TheVariants.{Ack}
use Rattle.dna_packet.specs.Nsp.{NspValue, DataAck, ConnectInitiate, ConnectConfirm, DisconnectInitiate}
use Rattle.dna_links.specs.Links.{Carried}
use Rattle.dna_links.specs.User.{Open, Abort}
use Rattle.dna_links.specs.TrueSegments.{true_segments}
use Rattle.dna_links.specs.Runs.{SentMessage}
use Rattle.dna_queues.specs.Records.{LinkRecord, OfUser, Sends, Keeps}

-- node 1, link 7; node 2, link 9
abbrev pub from_here : NspValue → Carried
from_here message = record { dst = 2; src = 1; message = message }

abbrev pub from_there : NspValue → SentMessage
from_there message = record {
  packet = record { dst = 1; src = 2; message = message };
  truth = record { tag = record { link = Some 0; partner = Some 0 }; known = true_segments.sends_other true_segments.empty };
}

abbrev pub call : Carried
call = from_here (ConnectInitiate false 7 1 2 512 [])

abbrev pub confirmation : SentMessage
confirmation = from_there (ConnectConfirm 7 9 1 2 512 [])

abbrev pub acknowledgement : Carried
acknowledgement = from_here (DataAck 9 7 (record { qualifier = Ack; number = 0 } ∷ []))

abbrev pub closing : SentMessage
closing = from_there (DisconnectInitiate 7 9 0 [])

abbrev pub worked : List LinkRecord
worked = OfUser (Open 7) ∷ Sends call ∷ Keeps confirmation ∷ Keeps closing ∷ Sends acknowledgement ∷ []

abbrev pub waited : List LinkRecord
waited = OfUser (Open 7) ∷ OfUser (Abort 7) ∷ Sends call ∷ []

abbrev pub given_up : List LinkRecord
given_up = OfUser (Open 7) ∷ Sends call ∷ Keeps confirmation ∷ OfUser (Abort 7) ∷ []
