-- What comes, with what is delivered at once, as lines behind a text.
use Rattle.std.proofs.Common.{◌≡◌, ℕ, ◌+◌, ◌≤◌, Bool, true, false, cond, Option, Some, None, List, [], ◌∷◌, ◌++◌, Result, Ok, Err, refl, sym, ap, ap₂}
use Rattle.std.proofs.Common.{◌∙◌, append_assoc, le-leb}
use Rattle.std.proofs.lemmas.List.{append-nil}
use Rattle.capture_record.specs.declared.fate.Fate.{Fate}
use Rattle.capture_record.specs.declared.fate.Fate.TheVariants.{Dropped}
use Rattle.capture_record.specs.Fates.{is_kept, is_met}
use Rattle.capture.specs.declared.hint.HintForm.TheVariants.{Number}
use Rattle.capture_record.specs.declared.limit.TheConstants.{MAX_HINT}
use Rattle.capture_record.specs.declared.record.Record.{Record}
use Rattle.capture_record.specs.declared.record.Record.TheVariants.{Received}
use Rattle.capture.specs.Text.{record_line, record_lines}
use Rattle.ddcmp_msg.specs.Reading.{ReadingValue, reading}
use Rattle.dna_packet.specs.Nsp.{NspValue}
use Rattle.dna_play.specs.Stop.{Stop, BadStep}
use Rattle.dna_play.specs.StoredEnd.{StoredStation, StoredLinks, StoredEnd}
use Rattle.dna_play.specs.StoredStation.{after_arrival, keeps}
use Rattle.dna_play.specs.StoredLinks.{Delivering}
use Rattle.dna_play.specs.StoredPlay.{StoredStepped, all_short, arrived, ups, up_address, if_so, kept_or_not, receives, comes, drops}
use Rattle.dna_play.specs.Receipt.{carried}
use Rattle.player_end.specs.Stepping.{with_lines}
use Rattle.player_end.specs.inner.Delivering.{arrives_as}

-- no message of the links comes
pub none_arrives : (text : List ℕ) (s : StoredLinks) → arrives_as None text s ≡ Some (s, text)
none_arrives text s = ap (λ (t : List ℕ). Some (s, t)) (append-nil text)

pub ruleset nothing_came = (none_arrives)

-- ---- these bytes, which are read so, where their number has a line

module _ (e : StoredEnd) (bytes : List ℕ) (read : ReadingValue) (fate : Fate) (text : List ℕ) (few : e.passed ≤ MAX_HINT) where
  abbrev line : Record
  line = Received e.passed fate bytes

  abbrev d : Delivering
  d = arrived (carried (is_met fate) read) e.links

  abbrev lines : List ℕ
  lines = record_lines Number (ups (up_address (carried (is_met fate) read)) d.messages)

  abbrev after : StoredLinks → StoredEnd
  after links = record e { station = after_arrival read (is_kept fate) e.station; links = links; passed = e.passed + 1 }

  abbrev whole : Bool → Result StoredStepped Stop
  whole b = cond b (Ok (record { end = after d.links; sent = []; records = line ∷ ups (up_address (carried (is_met fate) read)) d.messages }))
      (Err BadStep)

  abbrev given : Bool → Option (StoredLinks × List ℕ)
  given b = cond b (Some (d.links, (text ++ record_line Number line) ++ lines)) None

  abbrev ended : Option (StoredLinks × List ℕ) → Result (StoredEnd × List (List ℕ) × List ℕ) Stop
  ended None = Err BadStep
  ended (Some p) = Ok (after p.0, [], p.1)

  has_line : receives e bytes read fate ≡ whole (all_short d.messages)
  has_line = ap (λ (b : Bool). cond b (whole (all_short d.messages)) (Err BadStep)) (le-leb e.passed MAX_HINT few)

  received_lines : with_lines text (receives e bytes read fate) ≡ ended (arrives_as (carried (is_met fate) read) (text ++ record_line Number line)
      e.links)
  received_lines = ap (with_lines text) has_line ∙ go (all_short d.messages)
    where
      go : (b : Bool) → with_lines text (whole b) ≡ ended (given b)
      go true = ap (λ (x : List ℕ). Ok (after d.links, [], x)) (sym (append_assoc text (record_line Number line) lines))
      go false = refl

  received_stops : arrives_as (carried (is_met fate) read) (text ++ record_line Number line) e.links ≡ None → receives e bytes read fate ≡ Err BadStep
  received_stops h = has_line ∙ go (all_short d.messages) h
    where
      go : (b : Bool) → given b ≡ None → whole b ≡ Err BadStep
      go true h = absurd cc
      go false h = refl

-- ---- these bytes come, as the code finds out one thing after the other

module _ (e : StoredEnd) (bytes : List ℕ) (read : ReadingValue) (fate : Fate) (text mid : List ℕ) (message : Option NspValue)
    (few : e.passed ≤ MAX_HINT) (mid_is : mid ≡ text ++ record_line Number (Received e.passed fate bytes))
    (message_is : message ≡ carried (is_met fate) read) where
  as_carried : arrives_as (carried (is_met fate) read) (text ++ record_line Number (Received e.passed fate bytes)) e.links
      ≡ arrives_as message mid e.links
  as_carried = ap₂ (λ (m : Option NspValue) (x : List ℕ). arrives_as m x e.links) (sym message_is) (sym mid_is)

  pub receive_lines : (station : StoredStation) (links : StoredLinks) (t : List ℕ) → station ≡ after_arrival read (is_kept fate) e.station →
      arrives_as message mid e.links ≡ Some (links, t) →
      with_lines text (receives e bytes read fate) ≡ Ok (record e { station = station; links = links; passed = e.passed + 1 }, [], t)
  receive_lines station links t station_is h =
      received_lines e bytes read fate text few ∙ ap (ended e bytes read fate text few) (as_carried ∙ h)
      ∙ ap (λ (s : StoredStation). Ok (record e { station = s; links = links; passed = e.passed + 1 }, [], t)) (sym station_is)

  pub receive_stops : arrives_as message mid e.links ≡ None → receives e bytes read fate ≡ Err BadStep
  receive_stops h = received_stops e bytes read fate text few (as_carried ∙ h)

pub ruleset received = (receive_lines, receive_stops)

-- ---- what is read, and what becomes of it, is what the code finds out

pub come_as : (e : StoredEnd) (buffer : Bool) (bytes : List ℕ) (read : ReadingValue) (kept : Bool) (fate : Fate) → read ≡ reading bytes →
    kept ≡ keeps buffer read e.station → fate ≡ kept_or_not kept → receives e bytes read fate ≡ comes e buffer bytes
come_as e buffer bytes read kept fate read_is kept_is fate_is =
    ap (receives e bytes read) (fate_is ∙ ap kept_or_not kept_is)
    ∙ ap (λ (x : ReadingValue). receives e bytes x (kept_or_not (keeps buffer x e.station))) read_is

pub drop_as : (e : StoredEnd) (bytes : List ℕ) (read : ReadingValue) (kept : Bool) → read ≡ reading bytes → kept ≡ keeps true read e.station →
    kept ≡ true → receives e bytes read Dropped ≡ drops e bytes
drop_as e bytes read kept read_is kept_is can =
    ap (λ (b : Bool). if_so b (receives e bytes read Dropped)) (sym can ∙ kept_is)
    ∙ ap (λ (x : ReadingValue). if_so (keeps true x e.station) (receives e bytes x Dropped)) read_is

pub ruleset read = (come_as, drop_as)
