-- An acknowledgement that goes back (NSP 4.0, acknowledgements). What a link acknowledges only rises. A data segment may carry an older word, since
-- one that goes again, or waited in a queue, may go as it was composed. A data acknowledgement message lies at or after each word that its link sent
-- before: after one that is 1 to 2,047 higher it went almost all around. Where one CI or CC passed from the far address, one link alone can have it.
use Rattle.std.specs.Prelude.{ℕ, zero, suc, ◌+◌, Bool, true, false, ◌&&◌, ◌||◌, not, ◌==◌, nat_le, List, [], ◌∷◌}
use Rattle.std.specs.List.{list_any}
use Rattle.ddcmp_msg.specs.Message.{Data}
use Rattle.ddcmp_msg.specs.Reading.{ReadingValue, reading, Sound}
use Rattle.dna_packet.specs.declared.ack_word.AckWord.{AckWord}
use Rattle.dna_packet.specs.Nsp.{NspValue, DataSegment, DataAck, ConnectInitiate, ConnectConfirm}
use Rattle.dna_links.specs.SegmentBook.{REACH, wire, is_of_data}
use Rattle.dna_node.specs.Content.{content}
use Rattle.accusing.specs.Placing.{Passed, Own, Other}
use Rattle.accusing_links.specs.Segments.{Shown, is_this, packet_in, shown_in, shown_by, passed_of, segment_of}

-- ---- what this side sent

-- a word acknowledges this number of data segments
abbrev pub is_word : ℕ → AckWord → Bool
is_word number word = is_of_data word.qualifier && word.number == number

-- one of these words does, and these two come before it
abbrev pub words_shown : (one two : ℕ) → List AckWord → Shown
words_shown one two words first second number = one == first && (two == second && list_any (is_word number) words)

-- a message from the link `own` to the link `far` has a word with this number
abbrev pub said_in : NspValue → Shown
said_in (DataSegment s) own far number = words_shown s.srcaddr s.dstaddr s.acks own far number
said_in (DataAck dst src acks) own far number = words_shown src dst acks own far number
said_in other own far number = false

-- A data unit with this NUM has a data acknowledgement message from the link `own` with this number: a station may send it again much later
abbrev pub alone_in : ℕ → NspValue → Shown
alone_in unit (DataAck dst src acks) num own number = words_shown unit src acks num own number
alone_in unit other num own number = false

-- by the NUM of a data unit and its message
module _ (of : ℕ → NspValue → Shown) where
  abbrev pub sent_in : ReadingValue → Shown
  sent_in (Sound (Data flags resp num body)) first second third = shown_in (of num) (content body) first second third
  sent_in other first second third = false

  -- a unit of this side shows them
  abbrev pub sent_of : List Passed → Shown
  sent_of [] first second third = false
  sent_of (Own unit ∷ passed) first second third = sent_in (reading unit) first second third || sent_of passed first second third
  sent_of (Other unit ∷ passed) first second third = sent_of passed first second third

-- ---- from which links the other side called or answered

abbrev pub call_of : NspValue → Shown
call_of (ConnectInitiate retransmitted src services info segsize user_data) first second far = is_this (0, 0, src) first second far
call_of (ConnectConfirm dst src services info segsize user_data) first second far = is_this (0, 0, src) first second far
call_of other first second far = false

abbrev pub bit : Bool → ℕ
bit true = 1
bit false = 0

-- how many CIs and CCs passed from this link
abbrev pub calls_of : List Passed → (far : ℕ) → ℕ
calls_of [] far = 0
calls_of (Own unit ∷ passed) far = calls_of passed far
calls_of (Other unit ∷ passed) far = bit (shown_by call_of (packet_in (reading unit)) 0 0 far) + calls_of passed far

-- ---- what goes back

pub record Told : Type 0 where
  -- the data segments of the other side
  pub segments : Shown
  -- the words of this side, and those of its data acknowledgement messages
  pub said : Shown
  pub alone : Shown
  -- not more than one CI or CC of the other side
  pub is_one : (far : ℕ) → Bool

abbrev pub told : List Passed → Told
told passed = record {
  segments = passed_of segment_of passed;
  said = sent_of (λ num. said_in) passed;
  alone = sent_of alone_in passed;
  is_one = λ far. nat_le (calls_of passed far) 1;
}

-- a number so little above this one was said
unfoldable pub was_said : (ℕ → Bool) → ℕ → ℕ → Bool
was_said said number zero = false
was_said said number (suc count) = said (wire (number + suc count)) || was_said said number count

-- a word of a data acknowledgement message, in a data unit with this NUM that does not go again
abbrev pub is_back : Told → (num own far : ℕ) → AckWord → Bool
is_back told num own far word =
    is_of_data word.qualifier
    && (not (told.alone num own word.number)
    && (not (told.segments own far (wire (word.number + 2048))) && was_said (told.said own far) word.number REACH))

abbrev pub is_back_message : Told → ℕ → NspValue → Bool
is_back_message told num (DataAck dst src acks) = told.is_one dst && list_any (is_back told num src dst) acks
is_back_message told num other = false

abbrev pub is_back_in : Told → ReadingValue → Bool
is_back_in told (Sound (Data flags resp num body)) = shown_in (λ m first second third. is_back_message told num m) (content body) 0 0 0
is_back_in told other = false

-- by the units that passed before it
abbrev pub is_back_unit : Told → List ℕ → Bool
is_back_unit told unit = is_back_in told (reading unit)
