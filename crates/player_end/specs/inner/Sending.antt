-- A new packet that an end sends, where it keeps all links that ever were.
use Rattle.std.specs.Prelude.{ℕ, Result, Some}
use Rattle.dna_station.specs.declared.head.Head.{Head}
use Rattle.dna_play.specs.NextSent.{LinkChoice, SendNew}
use Rattle.dna_play.specs.Stop.{Stop}
use Rattle.dna_play.specs.StoredEnd.{StoredStation, StoredLinks, StoredEnd}
use Rattle.dna_play.specs.StoredPlay.{StoredStepped, sends_choice}
use Rattle.player_end.specs.inner.Index.{among_live, live_of}

module _ (head : Head) (station : StoredStation) (links : StoredLinks) (addresses passed : ℕ) where
  abbrev pub end_with : StoredEnd
  end_with = record { head = head; station = station; links = live_of links; addresses = addresses; passed = passed }

  abbrev pub sends_new : LinkChoice → Result StoredStepped Stop
  sends_new message = sends_choice end_with (Some (SendNew (among_live links.links message)))
