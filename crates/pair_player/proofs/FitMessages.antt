-- What an end puts together to send consists of bytes and fits into a unit; and what sending leaves of its links stays in range.
use Rattle.std.proofs.Common.{◌≡◌, ℕ, Option, Some, None, List, [], ◌∷◌, refl}
use Rattle.std.specs.Prelude.{slice_get}
use Rattle.std.specs.Option.{IfSome}
use Rattle.ddcmp_msg.specs.Message.{MessageValue}
use Rattle.dna_station.specs.declared.head.Head.{Head}
use Rattle.dna_links.specs.Segmentation.{Piece, next_piece}
use Rattle.dna_play.specs.LinkOwed.{Duty, SegmentDuty}
use Rattle.dna_play.specs.NextSent.{LinkEnd, LinkChoice, Confirms, OfLink, Choice, SendNew}
use Rattle.dna_play.specs.Compose.{link_message, message_at, message_of}
use Rattle.dna_play.specs.StoredEnd.{StoredLinks}
use Rattle.dna_play.specs.StoredLinks.{gave, gave_by, sent_at, duty_sent}
use Rattle.dna_play.specs.StoredPlay.{links_sent}
use Rattle.dna_play.proofs.EachElement.{more_all, there}
use Rattle.dna_play.proofs.Links.Fits.{PieceFits, left_fits, next_fits, to_send_fits}
use Rattle.dna_play.proofs.Ends.UnitLines.{IsOfBytes, NspFits, confirm_fits, duty_fits}
use Rattle.dna_play.proofs.Ends.SendMakes.{put_of_bytes}
use Rattle.pair_player.proofs.FitLinks.{AllFit, LinkFits, changes, fits_at}
use Rattle.pair_player.proofs.FitStation.{StationFits, Variables}

-- ---- a message of the links

at_fits : (links : List LinkEnd) (place : ℕ) (o : Option LinkEnd) (duty : Duty) → AllFit links → slice_get links place ≡ o →
    IfSome (message_at o duty) NspFits
at_fits links place None duty h e = tt
at_fits links place (Some link) duty h e =
    let k = link.variables in let fits = (there LinkFits links place link h e).segments in
    duty_fits link (to_send_fits k.unsent k.outstanding link.owed.ahead (record { unsent = fits.unsent; given = fits.outstanding })) duty

links_fit : (message : LinkChoice) (links : List LinkEnd) → AllFit links → IfSome (link_message message links) NspFits
links_fit (Confirms confirm) links h = confirm_fits confirm.dst confirm.src confirm.reason
links_fit (OfLink place duty) links h = at_fits links place (slice_get links place) duty h refl

-- ---- a message of the station

pub message_fits : (k : Variables) → StationFits k → (next : Choice) (head : Head) (links : List LinkEnd) → AllFit links →
    IfSome (message_of next head k links) IsOfBytes
message_fits k h next head links fits = go (message_of next head k links) refl
  where
    go : (o : Option MessageValue) → message_of next head k links ≡ o → IfSome o IsOfBytes
    go None e = tt
    go (Some m) e = put_of_bytes k h.received_fits h.held_fits next head links m (λ one is. links_fit one links fits) e

-- ---- what is left of the links

gave_fits : (o : Option Piece) (link : LinkEnd) → LinkFits link → LinkFits (gave o link)
gave_fits (Some again) link h = h
gave_fits None link h =
    let k = h.segments in
    record {
      own_fits = h.own_fits;
      segments = record {
        unsent = left_fits (next_piece link.variables.unsent) link.variables.unsent.messages k.unsent;
        outstanding = more_all PieceFits link.variables.outstanding (next_piece link.variables.unsent ∷ []) k.outstanding
            (next_fits link.variables.unsent.begun link.variables.unsent.messages k.unsent, tt);
        pieces = k.pieces;
      };
    }

gave_by_fits : (duty : Duty) (link : LinkEnd) → LinkFits link → LinkFits (gave_by duty link)
gave_by_fits SegmentDuty link h = gave_fits (slice_get link.variables.outstanding link.owed.ahead) link h
gave_by_fits duty link h = h

module _ (s : StoredLinks) (h : AllFit s.links) where
  sent_fits : (place : ℕ) (o : Option LinkEnd) (duty : Duty) → slice_get s.links place ≡ o → AllFit (sent_at place o duty s).links
  sent_fits place None duty e = h
  sent_fits place (Some link) duty e = changes s h place (duty_sent duty link) (gave_by_fits duty link (fits_at s h place link e))

  pub choice_sent : (next : Choice) → AllFit (links_sent next s).links
  choice_sent (SendNew (Confirms confirm)) = h
  choice_sent (SendNew (OfLink place duty)) = sent_fits place (slice_get s.links place) duty refl
  choice_sent next = h
