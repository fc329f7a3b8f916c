-- What becomes of links where what is asked of what is left out is not so.
use Rattle.std.specs.Prelude.{false, ◌==◌, Some, List, [], ◌∷◌}
use Rattle.dna_packet.specs.Nsp.{NspValue, ConnectInitiate, ConnectConfirm, ConnectAck}
use Rattle.dna_links.specs.User.{Open, Accept}
use Rattle.dna_links.specs.TrueSegments.{Numbers, true_segments}
use Rattle.dna_leaving.specs.Records.{LinkRecord, OfUser, Sends, Keeps}
use Rattle.dna_leaving.specs.LeftOut.{LeftOut}

-- from node 2 to node 1, of the first link of each
abbrev pub comes : NspValue → LinkRecord Numbers
comes message = Keeps (record { dst = 1; src = 2; message = message }) (record {
  tag = record { link = Some 0; partner = Some 0 };
  known = true_segments.sends_other true_segments.empty;
})

-- a call from link 9 is accepted as link 5
abbrev pub accepted : List (LinkRecord Numbers)
accepted = comes (ConnectInitiate false 9 1 2 512 []) ∷ OfUser (Accept 9 5) ∷ []

-- the one end of it is left out, and the other is not
abbrev pub far_end_out : LeftOut
far_end_out = record { own = λ n. false; far = λ n. n == 9 }

-- Links 5 and 6 are opened. Then a confirmation for link 6 comes, which answers the call of link 5
abbrev pub crossed : List (LinkRecord Numbers)
crossed = OfUser (Open 5) ∷ OfUser (Open 6) ∷ comes (ConnectConfirm 6 9 1 2 512 []) ∷ []

-- link 5 is left out
abbrev pub five_out : LeftOut
five_out = record { own = λ n. n == 5; far = λ n. false }

-- A call comes from address 0, which no right node has, and is acknowledged
abbrev pub from_zero : List (LinkRecord Numbers)
from_zero =
    comes (ConnectInitiate false 0 1 2 512 []) ∷ Sends (record { dst = 2; src = 1; message = ConnectAck 0 }) ∷ []

-- address 0 of the other end is left out, and that of this end is not
abbrev pub far_zero_out : LeftOut
far_zero_out = record { own = λ n. false; far = λ n. n == 0 }
