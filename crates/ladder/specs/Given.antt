-- Which units a side sends again.
use Rattle.std.specs.Prelude.{ℕ, ◌+◌, ◌-◌, ◌%◌, Bool, true, false, min, nat_lt, if◌then◌else◌}
use Rattle.capture_record.specs.declared.entry.Entry.{Entry}
use Rattle.capture_record.specs.declared.entry.Entry.TheVariants as entry
use Rattle.ladder.specs.declared.given.Given.{Given}
use Rattle.ladder.specs.declared.given.Startup.{Startup}
use Rattle.ladder.specs.declared.given.Startup.TheVariants.{Strt, Stack, Neither}
use Rattle.ladder.specs.declared.said.Said.{Said}
use Rattle.ladder.specs.declared.said.Said.TheVariants as said

-- as at a start
abbrev pub no_number : Given
no_number = record { highest = 0; count = 0; last = Neither }

-- The number is among those that were given last, 255 of them at most: so many steps below the highest, modulo 256.
abbrev pub was_given : Given → ℕ → Bool
was_given given num = nat_lt ((given.highest + 256 - num) % 256) given.count

abbrev pub is_strt : Startup → Bool
is_strt Strt = true
is_strt Stack = false
is_strt Neither = false

abbrev pub is_stack : Startup → Bool
is_stack Strt = false
is_stack Stack = true
is_stack Neither = false

-- data by their number; a STRT or a STACK where the side's last record sent the same
abbrev pub is_again : Given → Said → Bool
is_again given (said.Data num resp content) = was_given given num
is_again given said.Strt = is_strt given.last
is_again given said.Stack = is_stack given.last
is_again given _ = false

abbrev pub startup_of : Said → Startup
startup_of said.Strt = Strt
startup_of said.Stack = Stack
startup_of _ = Neither

-- data with a new number are the highest
abbrev pub number_given : Given → ℕ → Given
number_given given num =
    if was_given given num then record given { last = Neither }
    else record { highest = num; count = min (given.count + 1) 255; last = Neither }

-- after a record that sent this
abbrev pub after_sending : Given → Said → Given
after_sending given (said.Data num resp content) = number_given given num
after_sending given other = record given { last = startup_of other }

-- after a record that sent nothing: at a start no number is given
abbrev pub after_other : Given → Entry → Given
after_other given entry.Start = no_number
after_other given _ = record given { last = Neither }
