-- Nodes that ask no period refuse no record for 13: a node over any machine that does not, and stations alone.
use Rattle.std.proofs.Common.{◌≡◌, ℕ, ◌+◌, Bool, true, false, cond, nat_lt, Option, Some, None, Result, Ok, Err, List, [], ◌∷◌, subst}
use Rattle.std.specs.Prelude.{◌≢◌, IfErr, IfSome, slice_get}
use Rattle.two_nodes.specs.Nodes.{Half, Outcome, advance, answered, concluded, read}
use Rattle.two_nodes.specs.Nodes.Outcome.{Made, Waits, Refused}
use Rattle.ddcmp_msg.specs.Message.{MessageValue}
use Rattle.ddcmp_msg.specs.Reading.{ReadingValue, reading}
use Rattle.ddcmp_msg.specs.Reading as read_as
use Rattle.capture_record.specs.declared.event.Event.{Event}
use Rattle.capture_record.specs.declared.event.Event.TheVariants as events
use Rattle.capture_record.specs.declared.fate.Fate.{Fate}
use Rattle.capture_record.specs.declared.fate.Fate.TheVariants.{NotKept}
use Rattle.capture_record.specs.Fates.{is_kept}
use Rattle.capture_record.specs.declared.record.Record.{Record}
use Rattle.capture_record.specs.declared.record.Record.TheVariants.{Sent, Received, Noise, User}
use Rattle.dna_station.specs.declared.refusal.StationRefusal.{StationRefusal}
use Rattle.dna_station.specs.declared.refusal.StationRefusal.TheVariants.{CrossedPeriod}
use Rattle.dna_station.specs.declared.refusal.StepRefusal.{StepRefusal}
use Rattle.dna_station.specs.declared.refusal.StepRefusal.TheVariants as steps
use Rattle.dna_station.specs.declared.state.State.{State}
use Rattle.dna_station.specs.declared.state.State.TheVariants.{Halted}
use Rattle.dna_station.specs.declared.state.StationEvent.TheVariants.{Start, Halt}
use Rattle.dna_station.specs.declared.tag.Tag.{Tag}
use Rattle.dna_station.specs.Book.{ArrivalValue, Book, Sound, HeaderBad, DataBad, failed, first_failed, keep_refusal, sending_refusal_by, takes_by}
use Rattle.dna_station.specs.Line.{UnitOf, damage, coming}
use Rattle.dna_station.specs.Machine.{Machine, NodeOf, comes, does, met, noise_comes, receives, sends, sent_step, step, unless_refused}
use Rattle.dna_station.specs.PeriodRule.{of_any_period}
use Rattle.dna_station.specs.Table.{Check, checks, refusal_of, user_refusal}
use Rattle.dna_station.specs.Table as table
use Rattle.dna_station.specs.WireBook.{wire_book}
use Rattle.dna_station.specs.WireNode.{wire_machine}
use Rattle.dna_station.specs.WireStation.{WireStation}
use Rattle.dna_links.specs.declared.tag.LinkTag.{LinkTag}

-- no refusal for 13
abbrev pub IsOther : StepRefusal → Type 0
IsOther refusal = refusal ≢ steps.Station CrossedPeriod

-- ---- a node over any machine

-- of no record, whatever comes
pub record RefusesOther {S K : Type 0} (machine : Machine S K) : Type 0 where
  pub user : (s : S) (event : Event) → IfErr (machine.user s event) IsOther
  pub sends : (s : S) (m : MessageValue) → IfErr (machine.sends s m) IsOther
  pub arrives : (s : S) (arrival : ArrivalValue K) (fate : Fate) → IfErr (machine.arrives s arrival fate) IsOther

abbrev IsOtherwise : {S U : Type 0} → Outcome S U StepRefusal → Type 0
IsOtherwise (Made half) = Unit {0}
IsOtherwise Waits = Unit {0}
IsOtherwise (Refused refusal) = IsOther refusal

module _ {S K : Type 0} {machine : Machine S K} (refuses : RefusesOther machine) (own other : Half (NodeOf S) (UnitOf K)) where
  does_so : (o : Result S StepRefusal) → IfErr o IsOther → IsOtherwise (answered own other (does own.state o))
  does_so (Ok s) h = tt
  does_so (Err refusal) h = h

  sends_so : (bytes : List ℕ) (m : MessageValue) (o : Result (S × K) StepRefusal) → IfErr o IsOther →
      IsOtherwise (answered own other (sends own.state bytes m o))
  sends_so bytes m (Ok after) h = tt
  sends_so bytes m (Err refusal) h = h

  sent_so : (bytes : List ℕ) (r : ReadingValue) → IsOtherwise (answered own other (sent_step machine own.state bytes r))
  sent_so bytes (read_as.Sound m) = sends_so bytes m (machine.sends own.state.station m) (refuses.sends own.state.station m)
  sent_so bytes bad = λ e. absurd (cc)

  noise_so : (arrival : Option (ArrivalValue K)) →
      IsOtherwise (answered own other (does own.state (noise_comes machine own.state.station arrival)))
  noise_so None = λ e. absurd (cc)
  noise_so (Some arrival) = does_so (machine.arrives own.state.station arrival NotKept) (refuses.arrives own.state.station arrival NotKept)

  met_so : (front : ℕ) (o : Result S StepRefusal) → IfErr o IsOther → IsOtherwise (concluded {U = UnitOf K} own (met own.state front o))
  met_so front (Ok s) h = tt
  met_so front (Err refusal) h = h

  comes_so : (front : ℕ) (fate : Fate) (arrival : Option (ArrivalValue K)) →
      IsOtherwise (concluded {U = UnitOf K} own (comes machine own.state front fate arrival))
  comes_so front fate None = λ e. absurd (cc)
  comes_so front fate (Some arrival) =
      met_so front (machine.arrives own.state.station arrival fate) (refuses.arrives own.state.station arrival fate)

  ordered_so : (front : ℕ) (fate : Fate) (arrival : Option (ArrivalValue K)) (early : Bool) →
      IsOtherwise (concluded {U = UnitOf K} own (cond early (Err steps.HintOrder) (comes machine own.state front fate arrival)))
  ordered_so front fate arrival true = λ e. absurd (cc)
  ordered_so front fate arrival false = comes_so front fate arrival

  received_so : (hint : ℕ) (fate : Fate) (bytes : List ℕ) (o : Option (UnitOf K)) →
      IsOtherwise (read own (receives machine own.state hint fate bytes) o)
  received_so hint fate bytes None = tt
  received_so hint fate bytes (Some unit) = ordered_so (hint + 1) fate (coming unit bytes) (nat_lt hint own.state.front)

  step_so : (r : Record) → IsOtherwise (advance (step machine) own other r)
  step_so (Sent bytes) = sent_so bytes (reading bytes)
  step_so (Received hint fate bytes) = received_so hint fate bytes (slice_get other.sent hint)
  step_so (Noise bytes) = noise_so (damage (reading bytes))
  step_so (User event) = does_so (machine.user own.state.station event) (refuses.user own.state.station event)

  pub refused_so : (r : Record) (refusal : StepRefusal) → advance (step machine) own other r ≡ Refused refusal → IsOther refusal
  refused_so r refusal is = subst (λ (o : Outcome (NodeOf S) (UnitOf K) StepRefusal). IsOtherwise o) is (step_so r)

-- ---- stations alone

abbrev Other : StationRefusal → Type 0
Other refusal = refusal ≢ CrossedPeriod

at_station : (refusal : StationRefusal) → Other refusal → IsOther (steps.Station refusal)
at_station refusal other = λ e. other (cc)

unless_so : {X : Type 0} (o : Option StationRefusal) (x : X) → IfSome o Other → IfErr (unless_refused o x) IsOther
unless_so None x h = tt
unless_so (Some refusal) x h = at_station refusal h

start_so : (state : State) → IfSome (user_refusal state Start) Other
start_so Halted = tt
start_so state = λ e. absurd (cc)

halt_so : (state : State) → IfSome (user_refusal state Halt) Other
halt_so Halted = tt
halt_so state = tt

check_so : (check : Check) → Other (refusal_of check)
check_so table.RespIsLast = λ e. absurd (cc)
check_so check = λ e. absurd (cc)

first_by : (b : Bool) (rest : Option StationRefusal) (check : Check) → IfSome rest Other → IfSome (cond b rest (Some (refusal_of check))) Other
first_by true rest check h = h
first_by false rest check h = check_so check

first_so : (passes : Check → Bool) (list : List Check) → IfSome (first_failed passes list) Other
first_so passes [] = tt
first_so passes (check ∷ next) = first_by (passes check) (first_failed passes next) check (first_so passes next)

failed_so : (passes : Check → Bool) (list : Option (List Check)) → IfSome (failed passes list) Other
failed_so passes None = λ e. absurd (cc)
failed_so passes (Some list) = first_so passes list

keep_so : (takes kept : Bool) → IfSome (keep_refusal takes kept) Other
keep_so takes false = tt
keep_so true true = tt
keep_so false true = λ e. absurd (cc)

abbrev book : Book (WireStation LinkTag) Tag
book = wire_book

abbrev pub line : Machine (WireStation LinkTag) Tag
line = wire_machine of_any_period

sending_so : (w : WireStation LinkTag) (m : MessageValue) → IfSome (sending_refusal_by book w m) Other
sending_so w m = failed_so (book.passes w m) (checks (book.state w) m)

pub line_sends : (w : WireStation LinkTag) (m : MessageValue) → IfErr (line.sends w m) IsOther
line_sends w m = unless_so (sending_refusal_by book w m) _ (sending_so w m)

pub line_arrives : (w : WireStation LinkTag) (arrival : ArrivalValue Tag) (fate : Fate) → IfErr (line.arrives w arrival fate) IsOther
line_arrives w (Sound m tag) fate =
    unless_so (keep_refusal (takes_by book w m tag) (is_kept fate)) _ (keep_so (takes_by book w m tag) (is_kept fate))
line_arrives w HeaderBad fate = unless_so (keep_refusal false (is_kept fate)) _ (keep_so false (is_kept fate))
line_arrives w DataBad fate = unless_so (keep_refusal false (is_kept fate)) _ (keep_so false (is_kept fate))

pub line_user : (w : WireStation LinkTag) (event : Event) → IfErr (line.user w event) IsOther
line_user w events.Start = unless_so (user_refusal (book.state w) Start) (book.after_event w Start) (start_so (book.state w))
line_user w events.Halt = unless_so (user_refusal (book.state w) Halt) (book.after_event w Halt) (halt_so (book.state w))
line_user w events.Boot = unless_so (user_refusal (book.state w) Halt) (book.after_event w Halt) (halt_so (book.state w))
line_user w event = tt

pub line_refuses_other : RefusesOther line
line_refuses_other = record { user = line_user; sends = line_sends; arrives = line_arrives }
