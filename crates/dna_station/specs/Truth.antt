-- What is true of a unit when it is sent, and what its bytes do not tell.
use Rattle.std.specs.Prelude.{ℕ, ◌+◌, ◌-◌, length}
use Rattle.ddcmp_msg.specs.Message.{MessageValue, Data, Ack, Nak, Rep}
use Rattle.dna_station.specs.declared.tag.Tag.{Tag}
use Rattle.dna_station.specs.Station.{Station, given, packets_of}

-- A number that the message does not have is 0 here, and nothing looks at it
pub record Truth : Type 0 where
  -- the sender's period and its partner period
  pub tag : Tag
  -- what NUM stands for
  pub number : ℕ
  -- what RESP stands for
  pub response : ℕ
  -- of a data message, the place of its packet among all packets that its sender ever sent first, from 0 on. No
  -- station goes by it, nor by the sender's own numbers
  pub place : ℕ
  -- the sender's own numbers after the sending: the last received in order, the highest given, and the highest acknowledged
  pub received : ℕ
  pub given : ℕ
  pub acknowledged : ℕ

abbrev pub tag_of : Station → Tag
tag_of s = record { period = s.period; partner = s.partner }

-- the number that NUM stands for: of data the next to send, of a REP the highest given; no other message has one
abbrev pub number_of : Station → MessageValue → ℕ
number_of s (Rep flags num) = given s
number_of s (Data flags resp num body) = s.next_to_send
number_of s m = 0

-- the number that RESP stands for: the last received in order; REP, STRT and STACK have none
abbrev pub response_of : Station → MessageValue → ℕ
response_of s (Ack flags resp) = s.received
response_of s (Nak flags reason resp) = s.received
response_of s (Data flags resp num body) = s.received
response_of s m = 0

-- number 1 of the period comes after all packets of the periods before
abbrev pub place_of : Station → MessageValue → ℕ
place_of s (Data flags resp num body) = length (packets_of s.earlier) + (s.next_to_send - 1)
place_of s m = 0

abbrev pub truth_after : Station → Station → MessageValue → Truth
truth_after s after m = record {
  tag = tag_of s;
  number = number_of s m;
  response = response_of s m;
  place = place_of s m;
  received = after.received;
  given = given after;
  acknowledged = after.acknowledged;
}
