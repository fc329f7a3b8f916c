-- What becomes of a record that has a line has one.
use Rattle.std.proofs.Common.{◌≡◌, ℕ, ◌≤◌, Bool, true, false, cond, List, [], ◌∷◌, length, refl, arith}
use Rattle.std.specs.List.{AllByRecursion}
use Rattle.wire_base.specs.declared.side.Side.{Side}
use Rattle.wire_base.specs.Side.{other_side}
use Rattle.capture_record.specs.declared.event.Event.{Event}
use Rattle.capture_record.specs.declared.event.Event.TheVariants as events
use Rattle.capture_record.specs.declared.record.Record.{Record}
use Rattle.capture_record.specs.declared.record.Record.TheVariants.{Sent, Received, Noise, User}
use Rattle.capture_record.specs.Range.{IsLink, IsRecord}
use Rattle.leaving_out.specs.declared.leaving.Leaving.{Leaving}
use Rattle.leaving_out.specs.Addresses.{is_left, own}
use Rattle.leaving_out.specs.Records.{event_if_left, event_left, record_left, records_left}
use Rattle.leaving_out.proofs.Kept.{packet_kept, unit_kept}

-- an empty interrupt of a link
interrupt_fits : (link : ℕ) → IsLink link → IsRecord (User (events.Interrupt link []))
interrupt_fits link is = record { spelling = record { numbers = is; bytes = λ i. omega arith }; short = omega arith }

module _ (leaving : Leaving) (side : Side) where
  if_left : (link : ℕ) (event : Event) → IsLink link → IsRecord (User event) → IsRecord (User (event_if_left leaving side link event))
  if_left link event is fits = by_mark (is_left leaving (own side link))
    where
      by_mark : (b : Bool) → IsRecord (User (cond b (events.Interrupt link []) event))
      by_mark true = interrupt_fits link is
      by_mark false = fits

  event_fits : (event : Event) → IsRecord (User event) → IsRecord (User (event_left leaving side event))
  event_fits events.Start fits = fits
  event_fits events.Halt fits = fits
  event_fits (events.Open link) fits = if_left link (events.Open link) fits.spelling.numbers fits
  event_fits (events.Accept partner link) fits = if_left link (events.Accept partner link) fits.spelling.numbers.1 fits
  event_fits (events.Reject partner link) fits = if_left link (events.Reject partner link) fits.spelling.numbers.1 fits
  event_fits (events.In link bytes) fits = if_left link (events.In link bytes) fits.spelling.numbers fits
  event_fits (events.Up link bytes) fits = if_left link (events.Up link bytes) fits.spelling.numbers fits
  event_fits (events.Close link) fits = if_left link (events.Close link) fits.spelling.numbers fits
  event_fits events.Boot fits = fits
  event_fits (events.Abort link) fits = if_left link (events.Abort link) fits.spelling.numbers fits
  event_fits (events.Composed packet) fits =
      let kept = packet_kept packet fits.spelling.bytes leaving side in
      let short : length packet ≤ 16383 = fits.short in
      record { spelling = record { numbers = tt; bytes = kept.bytes }; short = omega (arith, kept.short) }
  event_fits (events.Interrupt link bytes) fits = if_left link (events.Interrupt link bytes) fits.spelling.numbers fits
  event_fits (events.Interrupted link bytes) fits = if_left link (events.Interrupted link bytes) fits.spelling.numbers fits

  one_fits : (r : Record) → IsRecord r → IsRecord (record_left leaving side r)
  one_fits (Sent unit) fits =
      let kept = unit_kept leaving side unit fits.spelling.bytes fits.short in
      record { spelling = record { numbers = tt; bytes = kept.bytes }; short = kept.short }
  one_fits (Received hint fate unit) fits =
      let kept = unit_kept leaving (other_side side) unit fits.spelling.bytes fits.short in
      record { spelling = record { numbers = fits.spelling.numbers; bytes = kept.bytes }; short = kept.short }
  one_fits (Noise bytes) fits = fits
  one_fits (User event) fits = event_fits event fits

  pub each_fits : (rs : List Record) → AllByRecursion IsRecord rs → AllByRecursion IsRecord (records_left leaving side rs)
  each_fits [] all = tt
  each_fits (r ∷ rs) all = (one_fits r all.0, each_fits rs all.1)

  pub as_many : (rs : List Record) → length (records_left leaving side rs) ≡ length rs
  as_many [] = refl
  as_many (r ∷ rs) = omega (arith, as_many rs)

pub record_fits : (leaving : Leaving) (side : Side) (r : Record) → IsRecord r → IsRecord (record_left leaving side r)
record_fits leaving side r fits = one_fits leaving side r fits
