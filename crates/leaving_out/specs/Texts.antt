-- The text in which what is left out is carried, and what is found in a text.
use Rattle.std.specs.Prelude.{◌≡◌, ℕ, ◌+◌, ◌<◌, ◌≤◌, ◌⊎◌, Bool, true, false, Option, Some, None, List, [], ◌∷◌, ◌++◌, length, replicate, codes}
use Rattle.std.specs.Prelude.{Result, Ok, Err}
use Rattle.std.specs.Global.{Vec}
use Rattle.std.specs.List.{AllByRecursion}
use Rattle.wire_base.specs.declared.side.Side.{Side}
use Rattle.capture.specs.declared.fault.CaptureFault.{CaptureFault}
use Rattle.capture.specs.declared.fault.CaptureFault.TheVariants.{Departs, Read, OutOfMemory, Failed}
use Rattle.capture.specs.declared.fault.Departure.{Departure}
use Rattle.capture.specs.declared.fault.Departure.TheVariants.{Syntax, TooLong, TooMany, Part}
use Rattle.capture.specs.declared.format.Format.TheVariants.{Three}
use Rattle.capture.specs.declared.limit.TheConstants.{MAX_LINE}
use Rattle.capture_record.specs.declared.record.Record.{Record}
use Rattle.capture.specs.SoFar.{ReadSoFar, TheEnd, IsReadSoFar, DepartsBehind, HeadDepartsAt, read_on}
use Rattle.capture.specs.Text.{capture_text}
use Rattle.link_groups.specs.declared.own_address.OwnAddress.{OwnAddress}
use Rattle.leaving_out.specs.declared.leaving.Head.{Head}
use Rattle.leaving_out.specs.declared.leaving.Leaving.{Leaving}
use Rattle.link_groups.specs.Groups.{AreGroupsOf, Binding}
use Rattle.leaving_out.specs.About.{about, bindings_of}
use Rattle.leaving_out.specs.Records.{records_left}
use Rattle.leaving_out.specs.WrongNodes.{is_wrong_node}

-- ---- a text as far as it can be read

-- the line after what was read departs in this way
abbrev pub DepartsNext : ReadSoFar → Departure → Type 0
DepartsNext read kind = DepartsBehind read kind (length read.records + 2)

-- all was read: the text has ended, or its next line departs
abbrev pub EndsOrDeparts : ReadSoFar → Type 0
EndsOrDeparts read = (read.behind ≡ TheEnd) ⊎ ((kind : Departure) × DepartsNext read kind)

-- ---- the text that is made

-- a line that is longer than a line may be
unfoldable pub too_long_line : List ℕ
too_long_line = replicate (MAX_LINE + 1) 63 ++ 10 ∷ []

-- A line that departs in this way; one after as many as a text may have departs whatever it is. As the head of a part of a run only a head departs.
abbrev pub departing : Departure → List ℕ
departing Syntax = codes "?\n"
departing TooLong = too_long_line
departing TooMany = codes "?\n"
departing Part = codes "?\n"

-- the text, in format 3, of what becomes of the records that were read
abbrev pub text_left : Leaving → Side → ReadSoFar → List ℕ
text_left leaving side read = capture_text Three read.own read.peer (records_left leaving side read.records)

-- The text that was made of a text: of all its records; and where this departs, a line that departs in the same way.
abbrev pub MadeOf : Leaving → Side → ReadSoFar → List ℕ → Type 0
MadeOf leaving side read made =
    ((read.behind ≡ TheEnd) × (made ≡ text_left leaving side read))
    ⊎ ((kind : Departure) × DepartsNext read kind × (made ≡ text_left leaving side read ++ departing kind))

-- What is made of this text. Only its head's departure is answered as one; a failed read, and want of memory, as such.
abbrev pub LeavesOut : Leaving → Side → Option (List ℕ) → Result (Vec ℕ) CaptureFault → Type 0
LeavesOut leaving side text (Ok made) = (read : ReadSoFar) × IsReadSoFar text read × MadeOf leaving side read made.items
LeavesOut leaving side text (Err (Departs kind line)) = HeadDepartsAt text kind line
LeavesOut leaving side text (Err Read) = Unit {0}
LeavesOut leaving side text (Err OutOfMemory) = Unit {0}
LeavesOut leaving side text (Err Failed) = ⊥

-- ---- what is found in a text

-- the addresses of its head
abbrev pub IsHeadOf : Option (List ℕ) → Result Head CaptureFault → Type 0
IsHeadOf text (Ok head) = (read : ReadSoFar) × IsReadSoFar text read × (head.own ≡ read.own) × (head.peer ≡ read.peer)
IsHeadOf text (Err (Departs kind line)) = HeadDepartsAt text kind line
IsHeadOf text (Err Read) = Unit {0}
IsHeadOf text (Err OutOfMemory) = Unit {0}
IsHeadOf text (Err Failed) = ⊥

-- this is what its record at this place is about
abbrev pub FoundAt : Side → ℕ → Option (List ℕ) → Option OwnAddress → Type 0
FoundAt side place text address =
    (read : ReadSoFar) × (r : Record) × (rest : Option (List ℕ)) ×
    IsReadSoFar text (read_on read r rest) × (length read.records ≡ place) × (address ≡ about side r)

-- the text has no record there that can be read
abbrev pub EndsBefore : ℕ → Option (List ℕ) → Type 0
EndsBefore place text = (read : ReadSoFar) × IsReadSoFar text read × EndsOrDeparts read × (length read.records ≤ place)

abbrev pub FindsAt : Side → ℕ → Option (List ℕ) → Result (Option OwnAddress) CaptureFault → Type 0
FindsAt side place text (Ok address) = FoundAt side place text address ⊎ (EndsBefore place text × (address ≡ None))
FindsAt side place text (Err (Departs kind line)) = HeadDepartsAt text kind line
FindsAt side place text (Err Read) = Unit {0}
FindsAt side place text (Err OutOfMemory) = Unit {0}
FindsAt side place text (Err Failed) = ⊥

-- none of these records keeps a message between wrong nodes
abbrev pub NoWrongNode : Leaving → Side → List Record → Type 0
NoWrongNode leaving side records = AllByRecursion (λ r. is_wrong_node leaving side r ≡ false) records

-- its record at this place is the first that does
abbrev pub FirstWrongNode : Leaving → Side → ℕ → Option (List ℕ) → Type 0
FirstWrongNode leaving side place text =
    (read : ReadSoFar) × (r : Record) × (rest : Option (List ℕ)) × IsReadSoFar text (read_on read r rest) × (length read.records ≡ place)
    × (is_wrong_node leaving side r ≡ true) × NoWrongNode leaving side read.records

-- none does among so many, or among all that can be read
abbrev pub NoneWithin : Leaving → Side → (made : ℕ) → Option (List ℕ) → Type 0
NoneWithin leaving side made text =
    (read : ReadSoFar) × IsReadSoFar text read × NoWrongNode leaving side read.records × ((length read.records ≡ made) ⊎ EndsOrDeparts read)

-- the place of the first among so many records
abbrev pub FindsWrongNode : Leaving → Side → (made : ℕ) → Option (List ℕ) → Result (Option ℕ) CaptureFault → Type 0
FindsWrongNode leaving side made text (Ok (Some place)) = (place < made) × FirstWrongNode leaving side place text
FindsWrongNode leaving side made text (Ok None) = NoneWithin leaving side made text
FindsWrongNode leaving side made text (Err (Departs kind line)) = HeadDepartsAt text kind line
FindsWrongNode leaving side made text (Err Read) = Unit {0}
FindsWrongNode leaving side made text (Err OutOfMemory) = Unit {0}
FindsWrongNode leaving side made text (Err Failed) = ⊥

-- this is what it binds, as far as it can be read: nothing where its head departs
abbrev pub Binds : Side → (alone : Bool) → Option (List ℕ) → List Binding → Type 0
Binds side alone text bindings =
    ((read : ReadSoFar) × IsReadSoFar text read × EndsOrDeparts read × (bindings ≡ bindings_of side alone read.records))
    ⊎ ((kind : Departure) × HeadDepartsAt text kind 1 × (bindings ≡ []))

-- the groups of these bindings have become those of these and all that the text binds
abbrev pub BindsAll : Side → (alone : Bool) → Option (List ℕ) → List Binding → List ℕ → Result (Unit {0}) CaptureFault → Type 0
BindsAll side alone text bindings groups (Ok done) = (more : List Binding) × Binds side alone text more × AreGroupsOf (bindings ++ more) groups
BindsAll side alone text bindings groups (Err (Departs kind line)) = ⊥
BindsAll side alone text bindings groups (Err Read) = Unit {0}
BindsAll side alone text bindings groups (Err OutOfMemory) = Unit {0}
BindsAll side alone text bindings groups (Err Failed) = ⊥

-- ---- what the text that is made is read as

-- What was read of one text, and of the one that is made of it: the same head, what becomes of the records; both end, or the line after
-- these departs in both in the same way.
pub record IsReadAlike (leaving : Leaving) (side : Side) (read made : ReadSoFar) : Type 0 where
  pub own_is : made.own ≡ read.own
  pub peer_is : made.peer ≡ read.peer
  pub records_are : made.records ≡ records_left leaving side read.records
  pub same_end : ((read.behind ≡ TheEnd) × (made.behind ≡ TheEnd)) ⊎ ((kind : Departure) × DepartsNext read kind × DepartsNext made kind)
