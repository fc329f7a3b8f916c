-- What came to one end alone.
use Rattle.std.specs.Prelude.{ℕ, Option, Some, None}
use Rattle.ddcmp_msg.specs.Message.{MessageValue, Data, Ack, Nak, Rep, Strt, Stack}
use Rattle.ddcmp_msg.specs.Reading.{ReadingValue, Sound, HeaderBad, DataBad, Malformed}

-- RESP of a sound message that has one
abbrev pub response_of : MessageValue → Option ℕ
response_of (Data flags resp num body) = Some resp
response_of (Ack flags resp) = Some resp
response_of (Nak flags reason resp) = Some resp
response_of (Rep flags num) = None
response_of (Strt flags) = None
response_of (Stack flags) = None

abbrev pub response_in : ReadingValue → Option ℕ
response_in (Sound message) = response_of message
response_in HeaderBad = None
response_in DataBad = None
response_in (Malformed departure) = None
