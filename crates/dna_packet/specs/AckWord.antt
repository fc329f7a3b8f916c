-- The acknowledgement word of NSP: bit 15 set, a qualifier in bits 12 to 14, a number in bits 0 to 11.
use Rattle.std.specs.Prelude.{ℕ, ◌+◌, ◌*◌, ◌/◌, ◌%◌, ◌<◌, List, [], ◌∷◌, ◌++◌, Option, Some, None, ◌==◌, if◌then◌else◌}
use Rattle.std.specs.Option.{option_map}
use Rattle.dna_packet.specs.declared.ack_word.AckQualifier.{AckQualifier}
use Rattle.dna_packet.specs.declared.ack_word.AckQualifier.TheVariants.{Ack, Nak, OtherAck, OtherNak}
use Rattle.dna_packet.specs.declared.ack_word.AckWord.{AckWord}
use Rattle.dna_packet.specs.Fields.{word}

abbrev pub qualifier_number : AckQualifier → ℕ
qualifier_number Ack = 0
qualifier_number Nak = 1
qualifier_number OtherAck = 2
qualifier_number OtherNak = 3

abbrev pub ack_word : AckWord → ℕ
ack_word ack = 0x8000 + 0x1000 * qualifier_number ack.qualifier + ack.number

-- the bytes of acknowledgement words, one after the other
abbrev pub ack_bytes : List AckWord → List ℕ
ack_bytes [] = []
ack_bytes (ack ∷ acks) = word (ack_word ack) ++ ack_bytes acks

-- a number has 12 bits
abbrev pub IsAckWord : AckWord → Type 0
IsAckWord ack = ack.number < 0x1000

-- Bits 12 to 15 of an acknowledgement word are 8 and the qualifier's number; other words are none.
abbrev pub qualifier_of : ℕ → Option AckQualifier
qualifier_of high =
    if high == 8 then Some Ack else
    if high == 9 then Some Nak else
    if high == 10 then Some OtherAck else
    if high == 11 then Some OtherNak else
    None

abbrev pub ack_of : ℕ → Option AckWord
ack_of n = option_map (λ qualifier. record { qualifier = qualifier; number = n % 0x1000 }) (qualifier_of (n / 0x1000))
