-- What a link has given, as far as it says which acknowledgements may come.
use Rattle.std.specs.Prelude.{ℕ, ◌-◌, Bool, true, false, ◌&&◌, ◌||◌, nat_le, if◌then◌else◌, Option, Some, None, List, [], ◌∷◌, length}
use Rattle.dna_packet.specs.declared.ack_word.AckWord.{AckWord}
use Rattle.dna_links.specs.declared.port.LinkTest.TheVariants.{ActedOn}
use Rattle.dna_links.specs.SegmentBook.{REACH, wire, distance, is_of_data}
use Rattle.dna_links.specs.Links.{with_link}
use Rattle.dna_links.specs.WireSegments.{WireSegments}
use Rattle.dna_links.specs.WireLinks.{WireLinks}
use Rattle.nsp_link.specs.declared.given.Given.{Given}

abbrev pub given_of : WireSegments → Given
given_of f = record { acknowledged = f.variables.acknowledged; outstanding = length f.variables.outstanding; gave_many = f.gave_many }

-- of the link that acts on a message between these addresses, if one does
abbrev pub given_at : (own far : ℕ) → WireLinks → Option Given
given_at own far s = with_link (ActedOn own far) s None (λ number link. Some (given_of link.segments))

-- a number that was acknowledged before: at most 2,047 below, and not below 0 as long as the highest given has not reached 2,047
abbrev pub is_earlier : Given → ℕ → Bool
is_earlier g number = nat_le (distance number g.acknowledged) REACH && (g.gave_many || nat_le (distance number g.acknowledged) g.acknowledged)

-- what is given after an acknowledgement of this number: one of what is outstanding, or an earlier one
abbrev pub behind : Given → ℕ → Option Given
behind g number =
    if nat_le (distance g.acknowledged number) g.outstanding
    then Some (record g { acknowledged = wire number; outstanding = g.outstanding - distance g.acknowledged number }) else
    if is_earlier g number then Some g else
    None

abbrev pub if_behind : Option Given → (Given → Bool) → Bool
if_behind None later = false
if_behind (Some next) later = later next

-- each word of this subchannel
abbrev pub all_may_come : List AckWord → Given → Bool
all_may_come [] g = true
all_may_come (word ∷ words) g =
    if is_of_data word.qualifier then if_behind (behind g word.number) (λ next. all_may_come words next) else all_may_come words g
