-- What an end sends, by how its unit is put together.
use Rattle.std.proofs.Common.{◌≡◌, ℕ, false, Option, Some, None, List, [], ◌∷◌, ◌++◌, Result, Ok, Err, refl, ap, ◌∙◌}
use Rattle.std.proofs.lemmas.List.{append-nil}
use Rattle.std.proofs.lemmas.Option.{same_Some}
use Rattle.std.specs.Option.{option_map, IfSome}
use Rattle.ddcmp_msg.specs.Message.{MessageValue}
use Rattle.ddcmp_msg.specs.Spelling.{spelling}
use Rattle.dna_packet.specs.Nsp.{NspValue, nsp_bytes}
use Rattle.dna_packet.specs.Packet.{packet_bytes}
use Rattle.dna_packet.specs.Packet as packets
use Rattle.capture.specs.declared.hint.HintForm.TheVariants.{Number}
use Rattle.capture_record.specs.declared.record.Record.TheVariants.{Sent}
use Rattle.capture.specs.Text.{record_line}
use Rattle.dna_station.specs.WireStation.{StationVariables}
use Rattle.dna_play.specs.NextSent.{LinkChoice, Choice, SendNew}
use Rattle.dna_play.specs.Compose.{data_with, packet_with, link_message, new_data}
use Rattle.dna_play.specs.Stop.{Stop, BadStep}
use Rattle.dna_play.specs.StoredEnd.{StoredStation, StoredLinks, StoredEnd}
use Rattle.dna_play.specs.StoredStation as stations
use Rattle.dna_play.specs.StoredLinks as of_links
use Rattle.dna_play.specs.StoredPlay.{StoredStepped, links_sent, sends_message, sends_choice}
use Rattle.player_end.specs.inner.Composing.{is_new, without_links}
use Rattle.player_end.specs.Stepping.{with_lines}

abbrev Sending : Type 0
Sending = Result (StoredEnd × List (List ℕ) × List ℕ) Stop

module _ (e : StoredEnd) where
  abbrev sending : StoredStation → StoredLinks → (unit line : List ℕ) → Sending
  sending station links unit line = Ok (record e { station = station; links = links }, unit ∷ [], line)

  -- the line of one unit
  message_sent : (next : Choice) (m : MessageValue) (text unit t : List ℕ) (station : StoredStation) (links : StoredLinks) → unit ≡ spelling m →
      station ≡ stations.after_sent next m e.station → links ≡ links_sent next e.links → t ≡ text ++ record_line Number (Sent unit) →
      with_lines text (sends_message e next (Some m)) ≡ sending station links unit t
  message_sent next m text unit t station links spelled after left line =
      rw (after, left, line, spelled) (ap (λ (x : List ℕ). sending (stations.after_sent next m e.station) (links_sent next e.links) (spelling m)
      (text ++ x)) (append-nil (record_line Number (Sent (spelling m)))))

  -- ---- what is not a new packet

  module _ (next : Choice) (old : is_new next ≡ false) where
    choice_is : sends_choice e (Some next) ≡ sends_message e next (without_links next e.station.variables)
    choice_is = go next old
      where
        go : (c : Choice) → is_new c ≡ false → sends_choice e (Some c) ≡ sends_message e c (without_links c e.station.variables)
        go (SendNew message) old = absurd cc
        go c old = refl

    same_links : e.links ≡ links_sent next e.links
    same_links = go next old
      where
        go : (c : Choice) → is_new c ≡ false → e.links ≡ links_sent c e.links
        go (SendNew message) old = absurd cc
        go c old = refl

    module _ (text : List ℕ) where
      abbrev After : Option MessageValue → StoredStation → Type 0
      After o after = IfSome o (λ m. after ≡ stations.after_sent next m e.station)

      pub sent_other : (unit t : List ℕ) (after : StoredStation) → Some unit ≡ option_map spelling (without_links next e.station.variables) →
          After (without_links next e.station.variables) after → t ≡ text ++ record_line Number (Sent unit) →
          with_lines text (sends_choice e (Some next)) ≡ sending after e.links unit t
      sent_other unit t after same made line =
          ap (with_lines text) choice_is ∙ go (without_links next e.station.variables) same made
        where
          go : (o : Option MessageValue) → Some unit ≡ option_map spelling o → After o after →
              with_lines text (sends_message e next o) ≡ sending after e.links unit t
          go None same made = absurd cc
          go (Some m) same made = message_sent next m text unit t after e.links (same_Some unit (spelling m) same) made same_links line

      pub none_other : None ≡ option_map spelling (without_links next e.station.variables) → sends_choice e (Some next) ≡ Err BadStep
      none_other same = choice_is ∙ go (without_links next e.station.variables) same
        where
          go : (o : Option MessageValue) → None ≡ option_map spelling o → sends_message e next o ≡ Err BadStep
          go None same = refl
          go (Some m) same = absurd cc

  -- ---- a new packet

  module _ (message : LinkChoice) (text : List ℕ) where
    abbrev k : StationVariables (Unit {0})
    k = e.station.variables

    abbrev carrying : Option NspValue → Result StoredStepped Stop
    carrying o = sends_message e (SendNew message) (new_data k e.head o)

    pub sent_new : (nsp packet unit t : List ℕ) (station : StoredStation) (links : StoredLinks) →
        Some nsp ≡ option_map nsp_bytes (link_message message e.links.links) →
        packet ≡ packet_bytes (packets.Data 2 e.head.peer e.head.own 0 nsp) → unit ≡ spelling (data_with k packet) →
        t ≡ text ++ record_line Number (Sent unit) →
        station ≡ stations.after_sent (SendNew message) (data_with k packet) e.station → links ≡ of_links.after_sent message e.links →
        with_lines text (sends_choice e (Some (SendNew message))) ≡ Ok (record e { station = station; links = links }, unit ∷ [], t)
    sent_new nsp packet unit t station links same put spelled line after left = go (link_message message e.links.links) same
      where
        go : (o : Option NspValue) → Some nsp ≡ option_map nsp_bytes o → with_lines text (carrying o) ≡ sending station links unit t
        go None same = absurd cc
        go (Some m) same =
            let whole : packet ≡ packet_with e.head m =
            put ∙ ap (λ (x : List ℕ). packet_bytes (packets.Data 2 e.head.peer e.head.own 0 x)) (same_Some nsp (nsp_bytes m) same) in
            message_sent (SendNew message) (data_with k (packet_with e.head m)) text unit t station links
            (spelled ∙ ap (λ (x : List ℕ). spelling (data_with k x)) whole)
            (after ∙ ap (λ (x : List ℕ). stations.after_sent (SendNew message) (data_with k x) e.station) whole) left line

    pub none_new : None ≡ option_map nsp_bytes (link_message message e.links.links) → sends_choice e (Some (SendNew message)) ≡ Err BadStep
    none_new same = go (link_message message e.links.links) same
      where
        go : (o : Option NspValue) → None ≡ option_map nsp_bytes o → carrying o ≡ Err BadStep
        go None same = refl
        go (Some m) same = absurd cc

pub ruleset sent_others = (sent_other, none_other)

pub ruleset sent_news = (sent_new, none_new)
