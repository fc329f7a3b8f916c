-- What the tables of the links ask of the segments of one link, both ways: a book of them. The tables are written once, over any book; `TrueSegments`
-- is the one on numbers without a bound, `WireSegments` the one that a node keeps. Numbers, windows and repeats: NSP 4.0, data segments and
-- acknowledgements.
use Rattle.std.specs.Prelude.{ℕ, ◌+◌, min, Bool, true, false, Option, List, Result, Ok, Err}
use Rattle.wire_base.specs.Seq.{wire_value, wire_distance}
use Rattle.dna_packet.specs.declared.ack_word.AckQualifier.{AckQualifier}
use Rattle.dna_packet.specs.declared.ack_word.AckQualifier.TheVariants.{Ack, Nak, OtherAck, OtherNak}
use Rattle.dna_packet.specs.declared.ack_word.AckWord.{AckWord}
use Rattle.dna_packet.specs.Nsp.{SegmentValue}
use Rattle.dna_station.specs.declared.link_refusal.LinkRefusal.{LinkRefusal}

-- how many segments may be outstanding, and how far back one that is sent again, or an acknowledgement in it, may reach
abbrev pub REACH : ℕ
REACH = 2047

-- a segment number as a message has it, and how far it is from one such number up to another
abbrev pub wire : ℕ → ℕ
wire number = wire_value 4096 number

abbrev pub distance : ℕ → ℕ → ℕ
distance from to = wire_distance 4096 from to

-- an acknowledgement of data segments, qualifier 0 or 1; one of the other subchannel is not judged
abbrev pub is_of_data : AckQualifier → Bool
is_of_data Ack = true
is_of_data Nak = true
is_of_data OtherAck = false
is_of_data OtherNak = false

-- what a message that may be sent makes of the segments, and what is known of its numbers beside its bytes
pub record Sending (D K : Type 0) : Type 0 where
  pub segments : D
  pub known : K

-- and how far the highest word of a new segment then lies below the last one sent
pub record Late (D K : Type 0) : Type 0 where
  pub sent : Sending D K
  pub gap : ℕ

abbrev pub with_gap : {D K : Type 0} → (Sending D K → ℕ) → Result (Sending D K) LinkRefusal → Result (Late D K) LinkRefusal
with_gap gap (Ok sent) = Ok (record { sent = sent; gap = gap sent })
with_gap gap (Err refusal) = Err refusal

-- the last one sent goes on so far
abbrev pub wider : (gap further : ℕ) → ℕ
wider gap further = min REACH (gap + further)

-- D is what a link keeps of its segments, K what is known of a message's numbers
pub record SegmentBook (D K : Type 0) : Type 0 where
  -- nothing was handed in, given or received
  pub empty : D
  -- a message is handed in; it is delivered, if it is the next whole one
  pub hands_in : List ℕ → D → D
  pub delivers : List ℕ → D → Option D
  -- a segment may be sent, where the partner takes so many data bytes; acknowledgement words alone; a message that has none
  pub sends_segment : ℕ → SegmentValue → D → Result (Sending D K) LinkRefusal
  pub sends_acks : List AckWord → D → Result (Sending D K) LinkRefusal
  pub sends_other : D → K
  -- the same of a segment whose words, where it is new, may reach back so far from the last one sent; how far the last one sent went on
  pub sends_late : (gap segsize : ℕ) → SegmentValue → D → Result (Late D K) LinkRefusal
  pub went_on : (before after : D) → ℕ
  -- a segment comes; acknowledgement words alone come
  pub takes_segment : SegmentValue → K → D → D
  pub takes_acks : List AckWord → K → D → D
  -- the link ends; its own address is given to another link
  pub ends : D → D
  pub forgets : D → D
