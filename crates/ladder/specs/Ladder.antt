-- What a ladder knows, and what a record that is told changes.
use Rattle.std.specs.Prelude.{ℕ, ◌+◌, ◌-◌, ◌^◌, Bool, List, length, min}
use Rattle.capture_record.specs.declared.entry.Entry.{Entry}
use Rattle.capture_record.specs.declared.entry.Entry.TheVariants.{Sent, Received, Noise, Composed}
use Rattle.ddcmp_msg.specs.Reading.{reading}
use Rattle.dna_packet.specs.ReadingPacket.{packet_at}
use Rattle.wire_base.specs.declared.side.Side.{Side}
use Rattle.wire_base.specs.declared.side.Side.TheVariants.{A, B}
use Rattle.ladder.specs.declared.half.Half.{Half}
use Rattle.ladder.specs.declared.said.Said.{Said}
use Rattle.ladder.specs.declared.told.Told.{Told}
use Rattle.ladder.specs.declared.told.What.{What}
use Rattle.ladder.specs.declared.told.What.TheVariants as what
use Rattle.ladder.specs.Given.{after_other, after_sending, is_again}
use Rattle.ladder.specs.Reading.{packet_content, said_of}
use Rattle.ladder.specs.Rows.{Kept, passed_in, with_made, with_refused}
use Rattle.ladder.specs.Said.{brief}
use Rattle.ladder.specs.State.{after, after_arrival, after_user}
use Rattle.ladder.specs.UnderWay.{passed, sending_of, sent_units, skipped, with_unit}

-- both sides, the rows, and whether no record is left
pub record LadderView : Type 0 where
  pub a : Half
  pub b : Half
  pub kept : Kept
  pub ended : Bool

-- ---- a record of one side, beside what is known of the other, as a row tells it

abbrev pub sent_what : Half → Said → What
sent_what own said = what.Sent (sent_units own.units) said (is_again own.given said)

abbrev pub what_of : Half → Half → Entry → List ℕ → What
what_of own other Sent bytes = sent_what own (said_of (reading bytes))
what_of own other (Received fate hint) bytes = what.Came hint fate (said_of (reading bytes)) (sending_of other.units hint)
what_of own other Noise bytes = what.Noise (said_of (reading bytes))
what_of own other Composed bytes = what.Composed (packet_content (packet_at bytes))
what_of own other entry bytes = what.User entry (length bytes)

-- record i is on line i + 2
abbrev pub told_by : Half → Half → Side → Entry → List ℕ → Told
told_by own other side entry bytes = record {
  side = side;
  line = own.line;
  what = what_of own other entry bytes;
  state = after own.state (what_of own other entry bytes);
}

-- ---- what the sides are after it

abbrev pub next_line : Half → ℕ
next_line own = min (own.line + 1) (2 ^ 64 - 1)

abbrev pub own_by : Half → ℕ → What → Entry → Half
own_by own line (what.Sent unit said again) entry =
    record own { line = next_line own; given = after_sending own.given said; units = with_unit own.units (record { line = line; said = said }) }
own_by own line _ entry = record own { line = next_line own; given = after_other own.given entry }

abbrev pub own_after : Half → Told → Entry → Half
own_after own told entry = record (own_by own told.line told.what entry) { state = told.state }

-- after a record that is not drawn, nor its unit where that comes: which line the next one is on, the state, which data were sent before, and
-- the number of the next unit
abbrev pub knowing : Half → Entry → List ℕ → Half
knowing own Sent bytes = record own {
  line = next_line own;
  given = after_sending own.given (brief (said_of (reading bytes)));
  units = skipped own.units;
}
knowing own (Received fate hint) bytes = record own {
  line = next_line own;
  given = after_other own.given (Received fate hint);
  state = after_arrival own.state (brief (said_of (reading bytes)));
}
knowing own entry bytes = record own { line = next_line own; given = after_other own.given entry; state = after_user own.state entry }

-- the units that the other side sent are passed by a receipt
abbrev pub other_after : Half → Entry → Half
other_after other (Received fate hint) = record other { units = passed other.units hint }
other_after other _ = other

-- and those in the rows
abbrev pub received : Kept → Side → Entry → Kept
received kept side (Received fate hint) = passed_in kept side hint
received kept side _ = kept

abbrev pub made_rows : Kept → Told → Entry → Kept
made_rows kept told entry = received (with_made kept told) told.side entry

abbrev pub refused_rows : Kept → Told → Entry → (changed : Bool) → Kept
refused_rows kept told entry changed = received (with_refused kept told changed) told.side entry

-- ---- the ladder

abbrev pub told_in : LadderView → Side → Entry → List ℕ → Told
told_in ladder A entry bytes = told_by ladder.a ladder.b A entry bytes
told_in ladder B entry bytes = told_by ladder.b ladder.a B entry bytes

-- a record was made
abbrev pub made_by : LadderView → Side → Told → Entry → LadderView
made_by ladder A told entry =
    record ladder { a = own_after ladder.a told entry; b = other_after ladder.b entry; kept = made_rows ladder.kept told entry }
made_by ladder B told entry =
    record ladder { b = own_after ladder.b told entry; a = other_after ladder.a entry; kept = made_rows ladder.kept told entry }

abbrev pub made : LadderView → Side → Entry → List ℕ → LadderView
made ladder side entry bytes = made_by ladder side (told_in ladder side entry bytes) entry

-- a record was made, and neither it nor its unit is drawn
abbrev pub learned : LadderView → Side → Entry → List ℕ → LadderView
learned ladder A entry bytes = record ladder { a = knowing ladder.a entry bytes }
learned ladder B entry bytes = record ladder { b = knowing ladder.b entry bytes }

-- which line the side's next record is on
abbrev pub line_of : LadderView → Side → ℕ
line_of ladder A = ladder.a.line
line_of ladder B = ladder.b.line

-- a record was refused, perhaps for bytes that are not those of its unit and show no damage: it changes the rows alone
abbrev pub refused : LadderView → Side → Entry → List ℕ → (changed : Bool) → LadderView
refused ladder side entry bytes changed = record ladder { kept = refused_rows ladder.kept (told_in ladder side entry bytes) entry changed }

-- a record comes after the refused one: it tells which units come still
abbrev pub follows : LadderView → Side → Entry → LadderView
follows ladder side entry = record ladder { kept = received ladder.kept side entry }
