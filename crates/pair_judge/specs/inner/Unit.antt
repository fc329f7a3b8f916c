-- A unit that is held, as the definitions see it: its message is what its bytes say.
use Rattle.std.specs.Prelude.{ℕ, false, List}
use Rattle.ddcmp_msg.specs.Message.{MessageValue, Strt}
use Rattle.ddcmp_msg.specs.Reading.{ReadingValue, reading, Sound, HeaderBad, DataBad, Malformed, IsSound}
use Rattle.dna_node.specs.WireLayers.{LayersTag, WireLayersUnit}
use Rattle.pair_judge.specs.declared.unit_tag.UnitTag.{UnitTag}

abbrev pub IsSoundReading : ReadingValue → Type 0
IsSoundReading r = IsSound r

-- the message of a sound reading; for any other reading some message
abbrev pub message_of : ReadingValue → MessageValue
message_of (Sound message) = message
message_of HeaderBad = Strt (record { quick_sync = false; select = false })
message_of DataBad = Strt (record { quick_sync = false; select = false })
message_of (Malformed departure) = Strt (record { quick_sync = false; select = false })

abbrev pub unit_of : List ℕ → LayersTag → WireLayersUnit
unit_of bytes tag = record { bytes = bytes; message = message_of (reading bytes); known = tag }

abbrev pub tags_of : UnitTag → LayersTag
tags_of tag = record { station = tag.station; link = tag.link }
