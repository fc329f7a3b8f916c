-- What has to hold of what becomes of packets, and of records, for no refusal to come of it.
use Rattle.std.specs.Prelude.{◌≡◌, ℕ, true, false, Option, Some, None, List, Ok}
use Rattle.ddcmp_msg.specs.Message.{MessageValue, IsBytes, IsInRange}
use Rattle.ddcmp_msg.specs.Reading.{reading, Sound}
use Rattle.capture_record.specs.Range.{IsRecord}
use Rattle.capture_record.specs.declared.record.Record.{Record}
use Rattle.capture_record.specs.declared.record.Record.TheVariants.{User}
use Rattle.dna_links.specs.Links.{Carried}
use Rattle.dna_links.specs.User.{LinkEventValue}
use Rattle.dna_node.specs.Content.{content, link_event}
use Rattle.dna_leaving.specs.LeftOut.{LeftOut, source_of, destination_of, sent_out, kept_out, message_out}
use Rattle.dna_leaving.specs.Right.{EventBinds}
use Rattle.dna_leaving.specs.Worlds.{other_out}
use Rattle.leaving_runs.specs.Stations.{with_body}

-- what becomes of a packet that the node of these addresses sends
pub record PacketsFit (out : LeftOut) (node peer : ℕ) (packet : List ℕ → List ℕ) : Type 0 where
  -- it fits a unit
  pub in_range : (unit : List ℕ) (m : MessageValue) → IsBytes unit → reading unit ≡ Sound m → IsInRange (with_body packet m)
  -- no message of the links comes of none
  pub none : (body : List ℕ) → IsBytes body → content body ≡ Ok None → content (packet body) ≡ Ok None
  -- a message stays
  pub stays : (body : List ℕ) (carried : Carried) → IsBytes body → content body ≡ Ok (Some carried) → carried.src ≡ node → carried.dst ≡ peer →
      message_out out carried.message ≡ false → content (packet body) ≡ Ok (Some carried)
  -- whatever nodes its packet goes between, where it is judged at its sender
  pub same : (body : List ℕ) (carried : Carried) → IsBytes body → content body ≡ Ok (Some carried) →
      sent_out out (source_of carried.message) (destination_of carried.message) ≡ false → content (packet body) ≡ Ok (Some carried)
  -- or is none of the links, where it is left out at both ends
  pub goes : (body : List ℕ) (carried : Carried) → IsBytes body → content body ≡ Ok (Some carried) → message_out out carried.message ≡ true →
      kept_out (other_out out) (source_of carried.message) (destination_of carried.message) ≡ true → content (packet body) ≡ Ok None

-- the event of a record that the links meet binds no judged address to one that is left out
abbrev pub EventFits : LeftOut → Option LinkEventValue → Type 0
EventFits out (Some event) = EventBinds out event
EventFits out None = Unit {0}

abbrev pub RecordBinds : LeftOut → Record → Type 0
RecordBinds out (User event) = EventFits out (link_event event)
RecordBinds out r = Unit {0}

-- a record that has a line, and binds nothing so
abbrev pub RecordFits : LeftOut → Record → Type 0
RecordFits out r = IsRecord r × RecordBinds out r
