-- Which bytes are the unit of a message (DDCMP 4.1, message formats): the grammar, whose checks are good by the rule in
-- bits, and the one spelling of each message as a function. `spelling_is_by_the_grammar` of `src/laws.rt` says
-- that they agree.
use Rattle.std.specs.Prelude.{◌≡◌, ℕ, ◌+◌, ◌/◌, ◌%◌, List, [], ◌∷◌, ◌++◌, length}
use Rattle.wire_base.specs.BlockCheck.{HasGoodCheck, check_bytes}
use Rattle.ddcmp_msg.specs.declared.flags.Flags.{Flags}
use Rattle.ddcmp_msg.specs.Message.{MessageValue, Data, Ack, Nak, Rep, Strt, Stack, IsInRange, IsBytes, flags_byte, reason_number}

-- SOH, ENQ and DLE, by which data, control and maintenance messages start
abbrev pub SOH : ℕ
SOH = 0x81

abbrev pub ENQ : ℕ
ENQ = 0x05

abbrev pub DLE : ℕ
DLE = 0x90

-- the address of the other station, where a line has two
abbrev pub ADDRESS : ℕ
ADDRESS = 1

-- The first six bytes of a control message: TYPE, SUBTYPE with the flags above it, RCVR and SNDR.
abbrev pub control : ℕ → ℕ → Flags → ℕ → ℕ → List ℕ
control type subtype flags receiver sender = ENQ ∷ type ∷ (subtype + flags_byte flags) ∷ receiver ∷ sender ∷ ADDRESS ∷ []

-- The first six bytes of a data message: COUNT in 14 bits, low byte first, with the flags above it, RESP and NUM.
abbrev pub numbered : ℕ → Flags → ℕ → ℕ → List ℕ
numbered count flags resp num = SOH ∷ (count % 256) ∷ (count / 256 + flags_byte flags) ∷ resp ∷ num ∷ ADDRESS ∷ []

-- the first six bytes of each message
abbrev pub header : MessageValue → List ℕ
header (Data flags resp num body) = numbered (length body) flags resp num
header (Ack flags resp) = control 1 0 flags resp 0
header (Nak flags reason resp) = control 2 (reason_number reason) flags resp 0
header (Rep flags num) = control 3 0 flags 0 num
header (Strt flags) = control 6 0 flags 0 0
header (Stack flags) = control 7 0 flags 0 0

-- the field, and after it two bytes that make its check good
abbrev pub IsChecked : List ℕ → List ℕ → Type 0
IsChecked field bytes = (low high : ℕ) × (bytes ≡ field ++ low ∷ high ∷ []) × HasGoodCheck bytes

-- what follows the header and its check: of a data message the body and its check, of a control message nothing
abbrev pub IsRest : MessageValue → List ℕ → Type 0
IsRest (Data flags resp num body) rest = IsChecked body rest
IsRest message rest = rest ≡ []

-- The grammar: these bytes are the unit of that message.
pub record IsUnit (message : MessageValue) (unit : List ℕ) : Type 0 where
  pub in_range : IsInRange message
  pub bytes : IsBytes unit
  pub head : List ℕ
  pub rest : List ℕ
  pub whole : unit ≡ head ++ rest
  pub head_is : IsChecked (header message) head
  pub rest_is : IsRest message rest

-- ---- the spelling as a function

-- a field and after it its check
abbrev pub with_check : List ℕ → List ℕ
with_check field = field ++ check_bytes field

-- the same of what follows the header and its check
abbrev pub rest_of : MessageValue → List ℕ
rest_of (Data flags resp num body) = with_check body
rest_of message = []

unfoldable pub spelling : MessageValue → List ℕ
spelling message = with_check (header message) ++ rest_of message
