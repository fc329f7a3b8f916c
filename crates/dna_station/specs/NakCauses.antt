-- What a station in RUNNING may answer with a NAK: the open causes of each reason (DDCMP 4.1, NAK message). What opens one is in `Table`.
-- That a NAK wants an open cause, and uses it up, is this project's own.
use Rattle.std.specs.Prelude.{ℕ, ◌+◌, ◌-◌, Bool, true, nat_lt}
use Rattle.ddcmp_msg.specs.Message.{MessageValue, Nak}
use Rattle.ddcmp_msg.specs.declared.nak_reason.NakReason.{NakReason}
use Rattle.ddcmp_msg.specs.declared.nak_reason.NakReason.TheVariants.{HeaderCheck, DataCheck, RepResponse, NoBuffer}

pub record Causes : Type 0 where
  -- units, or noise, that came with a bad header, with bad data
  pub header_check : ℕ
  pub data_check : ℕ
  -- REPs that asked for a number other than that of the last packet received
  pub rep_response : ℕ
  -- packets that were the next, and for which there was no buffer
  pub no_buffer : ℕ

abbrev pub no_causes : Causes
no_causes = record { header_check = 0; data_check = 0; rep_response = 0; no_buffer = 0 }

-- one cause more
abbrev pub with_cause : NakReason → Causes → Causes
with_cause HeaderCheck c = record c { header_check = c.header_check + 1 }
with_cause DataCheck c = record c { data_check = c.data_check + 1 }
with_cause RepResponse c = record c { rep_response = c.rep_response + 1 }
with_cause NoBuffer c = record c { no_buffer = c.no_buffer + 1 }
with_cause reason c = c

-- whether a NAK of this reason may be sent: reasons 1, 2, 3 and 8 have an open cause; reasons 9, 16 and 17 need none
abbrev pub has_cause : NakReason → Causes → Bool
has_cause HeaderCheck c = nat_lt 0 c.header_check
has_cause DataCheck c = nat_lt 0 c.data_check
has_cause RepResponse c = nat_lt 0 c.rep_response
has_cause NoBuffer c = nat_lt 0 c.no_buffer
has_cause reason c = true

-- a NAK with reason 1, 2, 3 or 8 uses up one open cause of its reason
abbrev pub without_cause : NakReason → Causes → Causes
without_cause HeaderCheck c = record c { header_check = c.header_check - 1 }
without_cause DataCheck c = record c { data_check = c.data_check - 1 }
without_cause RepResponse c = record c { rep_response = c.rep_response - 1 }
without_cause NoBuffer c = record c { no_buffer = c.no_buffer - 1 }
without_cause reason c = c

-- of a message that is sent: whether it may be, and what it leaves
abbrev pub may_nak : MessageValue → Causes → Bool
may_nak (Nak flags reason resp) c = has_cause reason c
may_nak m c = true

abbrev pub after_nak : MessageValue → Causes → Causes
after_nak (Nak flags reason resp) c = without_cause reason c
after_nak m c = c
