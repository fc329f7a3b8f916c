-- A message as a value: what it says, without where its body lies in memory (DDCMP 4.1, message formats).
use Rattle.std.specs.Prelude.{ℕ, ◌+◌, ◌*◌, ◌/◌, ◌%◌, ◌<◌, ◌≤◌, Bool, true, false, ◌==◌, if◌then◌else◌, Option, Some, None, List, length, get_or}
use Rattle.ddcmp_msg.specs.declared.flags.Flags.{Flags}
use Rattle.ddcmp_msg.specs.declared.nak_reason.NakReason.{NakReason}
use Rattle.ddcmp_msg.specs.declared.nak_reason.NakReason.TheVariants.{HeaderCheck, DataCheck, RepResponse, NoBuffer, Overrun, MessageTooLong}
use Rattle.ddcmp_msg.specs.declared.nak_reason.NakReason.TheVariants.{HeaderFormat}
use Rattle.ddcmp_msg.specs.declared.message.Message.{Message}
use Rattle.ddcmp_msg.specs.declared.message.Message.TheVariants as variants

pub data MessageValue : Type 0 where
  Data : (flags : Flags) (resp num : ℕ) (body : List ℕ) → MessageValue
  Ack : (flags : Flags) (resp : ℕ) → MessageValue
  Nak : (flags : Flags) (reason : NakReason) (resp : ℕ) → MessageValue
  Rep : (flags : Flags) (num : ℕ) → MessageValue
  Strt : (flags : Flags) → MessageValue
  Stack : (flags : Flags) → MessageValue

-- what a message of the code says
abbrev pub view : Message → MessageValue
view (variants.Data flags resp num body) = Data flags resp num body.now
view (variants.Ack flags resp) = Ack flags resp
view (variants.Nak flags reason resp) = Nak flags reason resp
view (variants.Rep flags num) = Rep flags num
view (variants.Strt flags) = Strt flags
view (variants.Stack flags) = Stack flags

-- The body has 1 to 16,383 bytes, which COUNT can say in its 14 bits. Every other field is in its range where it is a byte.
abbrev pub IsInRange : MessageValue → Type 0
IsInRange (Data flags resp num body) = (1 ≤ length body) × (length body ≤ 16383)
IsInRange message = Unit {0}

-- each number of the list is a byte
abbrev pub IsBytes : List ℕ → Type 0
IsBytes bytes = (i : ℕ) → get_or bytes i 0 < 256

-- ---- flags

abbrev pub bit : Bool → ℕ
bit false = 0
bit true = 1

-- QSYNC is bit 6 and SELECT bit 7
abbrev pub flags_byte : Flags → ℕ
flags_byte flags = 64 * bit flags.quick_sync + 128 * bit flags.select

abbrev pub flags_of : ℕ → Flags
flags_of byte = record { quick_sync = (byte / 64 % 2) == 1; select = (byte / 128 % 2) == 1 }

-- ---- the reasons of a NAK

abbrev pub reason_number : NakReason → ℕ
reason_number HeaderCheck = 1
reason_number DataCheck = 2
reason_number RepResponse = 3
reason_number NoBuffer = 8
reason_number Overrun = 9
reason_number MessageTooLong = 16
reason_number HeaderFormat = 17

-- the reason of that number
abbrev pub reason_of : ℕ → Option NakReason
reason_of n =
    if n == 1 then Some HeaderCheck
    else (if n == 2 then Some DataCheck
    else (if n == 3 then Some RepResponse
    else (if n == 8 then Some NoBuffer
    else (if n == 9 then Some Overrun
    else (if n == 16 then Some MessageTooLong
    else (if n == 17 then Some HeaderFormat
    else None))))))
