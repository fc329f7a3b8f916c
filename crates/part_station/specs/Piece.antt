-- A piece of a run of one station: what a capture has that begins in the midst of one.
use Rattle.std.specs.Prelude.{◌≡◌, List, [], ◌∷◌, ◌++◌}
use Rattle.ddcmp_msg.specs.Message.{IsBytes}
use Rattle.capture_record.specs.declared.record.Record.{Record}
use Rattle.capture_record.specs.declared.record.Record.TheVariants.{Sent, Received, Noise, User}
use Rattle.dna_station.specs.declared.head.Head.{Head}
use Rattle.dna_node.specs.Alone.{StationPasses}

-- the same record but for its hint, which counts the units of another capture, or says that the unit was sent before that begins
abbrev pub IsAlike : Record → Record → Type 0
IsAlike (Received hint fate bytes) (Received other fate_there bytes_there) = (fate ≡ fate_there) × (bytes ≡ bytes_there)
IsAlike (Received hint fate bytes) other = ⊥
IsAlike (Sent bytes) other = Sent bytes ≡ other
IsAlike (Noise bytes) other = Noise bytes ≡ other
IsAlike (User event) other = User event ≡ other

abbrev pub AreAlike : List Record → List Record → Type 0
AreAlike [] [] = Unit {0}
AreAlike [] (other ∷ others) = ⊥
AreAlike (r ∷ records) [] = ⊥
AreAlike (r ∷ records) (other ∷ others) = IsAlike r other × AreAlike records others

-- units are bytes
abbrev pub HasBytes : Record → Type 0
HasBytes (Sent bytes) = IsBytes bytes
HasBytes (Received hint fate bytes) = IsBytes bytes
HasBytes (Noise bytes) = IsBytes bytes
HasBytes (User event) = Unit {0}

abbrev pub HaveBytes : List Record → Type 0
HaveBytes [] = Unit {0}
HaveBytes (r ∷ records) = HasBytes r × HaveBytes records

-- Records could stand before them with which all of it passes alone, as the capture of one station; their hints count what was before, too
pub record IsPiece (records : List Record) : Type 0 where
  pub head : Head
  pub before : List Record
  pub whole : List Record
  pub alike : AreAlike records whole
  pub bytes : HaveBytes (before ++ whole)
  pub passes : StationPasses head (before ++ whole)
