-- Lines that are put one after another.
use Rattle.std.proofs.Common.{◌≡◌, ℕ, ◌+◌, Option, Some, None, List, [], ◌∷◌, ◌++◌, drop, refl, sym, ap, subst, ◌∙◌}
use Rattle.std.proofs.lemmas.List.{append_assoc, append-nil}
use Rattle.capture_record.specs.declared.record.Record.{Record}
use Rattle.capture_record.specs.declared.fate.Fate.{Fate}
use Rattle.capture_record.specs.declared.record.Record.TheVariants.{Sent, Received, Noise, User}
use Rattle.capture_record.specs.declared.event.Event.{Event}
use Rattle.capture.specs.declared.hint.HintForm.TheVariants.{Number}
use Rattle.capture.specs.Text.{record_line, record_lines}
use Rattle.capture_record.specs.declared.event.Event.TheVariants as events
use Rattle.capture_record.specs.declared.entry.Entry.{Entry}
use Rattle.capture_record.specs.declared.entry.Entry.TheVariants as entries
use Rattle.capture_record.specs.Entries.{record_with}
use Rattle.placing.specs.inner.Aside.{IsOfNoUnit}
use Rattle.placing.specs.Placed.{Units, Waiting, AllFollow, IsInTime, records_of, Puts, units_sent}

-- ---- one after another

follow-append : (a b c : Units) (acts more : List (Option Record)) → AllFollow a acts b → AllFollow b more c → AllFollow a (acts ++ more) c
follow-append a b c [] more e next = subst (λ (u : Units). AllFollow u more c) e next
follow-append a b c (act ∷ acts) more (between, first, rest) next = (between, first, follow-append between b c acts more rest next)

records-append : (acts more : List (Option Record)) → records_of (acts ++ more) ≡ records_of acts ++ records_of more
records-append [] more = refl
records-append (None ∷ acts) more = records-append acts more
records-append (Some r ∷ acts) more = ap (λ (rs : List Record). r ∷ rs) (records-append acts more)

lines-append : (rs more : List Record) → record_lines Number (rs ++ more) ≡ record_lines Number rs ++ record_lines Number more
lines-append [] more = refl
lines-append (r ∷ rs) more =
    ap (λ (text : List ℕ). record_line Number r ++ text) (lines-append rs more)
    ∙ sym (append_assoc (record_line Number r) (record_lines Number rs) (record_lines Number more))

pub puts_nothing : (w : Waiting) → Puts w w
puts_nothing w = record { acts = []; follow = refl; text = sym (append-nil w.text) }

pub puts_then : (a b c : Waiting) → Puts a b → Puts b c → Puts a c
puts_then a b c p q =
    record {
      acts = p.acts ++ q.acts;
      follow = follow-append a.units b.units c.units p.acts q.acts p.follow q.follow;
      text = q.text ∙ ap (λ (text : List ℕ). text ++ record_lines Number (records_of q.acts)) p.text
          ∙ append_assoc a.text (record_lines Number (records_of p.acts)) (record_lines Number (records_of q.acts))
          ∙ ap (λ (text : List ℕ). a.text ++ text)
          (sym (ap (λ (rs : List Record). record_lines Number rs) (records-append p.acts q.acts)
          ∙ lines-append (records_of p.acts) (records_of q.acts)));
    }

-- ---- one of them

one_line : (r : Record) (old new : List ℕ) → new ≡ old ++ record_line Number r → new ≡ old ++ record_lines Number (r ∷ [])
one_line r old new e = e ∙ ap (λ (text : List ℕ). old ++ text) (sym (append-nil (record_line Number r)))

-- the next unit of the side is taken, and then its line is put
pub puts_sent : (old mid new : Waiting) (bytes : List ℕ) → old.units.own ≡ bytes ∷ mid.units.own → mid.units.seen ≡ drop 1 old.units.seen →
    mid.units.other ≡ old.units.other → mid.units.gone ≡ old.units.gone → mid.text ≡ old.text → new.units ≡ mid.units →
    new.text ≡ mid.text ++ record_line Number (Sent bytes) →
    Puts old new
puts_sent old mid new bytes own seen other gone same units text =
    record {
      acts = Some (Sent bytes) ∷ [];
      follow = (mid.units, record { own = own; seen = seen; other = other; gone = gone }, units);
      text = one_line (Sent bytes) old.text new.text (text ∙ ap (λ (t : List ℕ). t ++ record_line Number (Sent bytes)) same);
    }

-- the same of the other side's
pub puts_came : (old mid new : Waiting) (hint : ℕ) (fate : Fate) (bytes : List ℕ) → hint ≡ old.units.gone →
    IsInTime hint old.units.seen → mid.units.own ≡ old.units.own → mid.units.seen ≡ old.units.seen →
    old.units.other ≡ bytes ∷ mid.units.other → mid.units.gone ≡ old.units.gone + 1 → mid.text ≡ old.text → new.units ≡ mid.units →
    new.text ≡ mid.text ++ record_line Number (Received hint fate bytes) → Puts old new
puts_came old mid new hint fate bytes named time own seen other gone same units text =
    record {
      acts = Some (Received hint fate bytes) ∷ [];
      follow = (mid.units, (named, time, record { own = own; seen = seen; other = other; gone = gone }), units);
      text = one_line (Received hint fate bytes) old.text new.text
          (text ∙ ap (λ (t : List ℕ). t ++ record_line Number (Received hint fate bytes)) same);
    }

pub puts_lost : (old new : Waiting) (bytes : List ℕ) → new.units.own ≡ old.units.own → new.units.seen ≡ old.units.seen →
    old.units.other ≡ bytes ∷ new.units.other →
    new.units.gone ≡ old.units.gone + 1 → new.text ≡ old.text → Puts old new
puts_lost old new bytes own seen other gone text =
    record {
      acts = None ∷ [];
      follow = (new.units, (bytes, record { own = own; seen = seen; other = other; gone = gone }), refl);
      text = text ∙ sym (append-nil old.text);
    }

puts_event : (old new : Waiting) (event : Event) → new.units ≡ old.units → new.text ≡ old.text ++ record_line Number (User event) → Puts old new
puts_event old new event units text =
    record { acts = Some (User event) ∷ []; follow = (new.units, units, refl); text = one_line (User event) old.text new.text text }

puts_noise : (old new : Waiting) (bytes : List ℕ) → new.units ≡ old.units → new.text ≡ old.text ++ record_line Number (Noise bytes) → Puts old new
puts_noise old new bytes units text =
    record { acts = Some (Noise bytes) ∷ []; follow = (new.units, units, refl); text = one_line (Noise bytes) old.text new.text text }

pub puts_aside : (old new : Waiting) (entry : Entry) (bytes : List ℕ) → IsOfNoUnit entry → new.units ≡ old.units →
    new.text ≡ old.text ++ record_line Number (record_with entry bytes) → Puts old new
puts_aside old new entries.Sent bytes aside units text = absurd aside
puts_aside old new (entries.Received fate hint) bytes aside units text = absurd aside
puts_aside old new entries.Noise bytes aside units text = puts_noise old new bytes units text
puts_aside old new entries.Start bytes aside units text = puts_event old new events.Start units text
puts_aside old new entries.Halt bytes aside units text = puts_event old new events.Halt units text
puts_aside old new (entries.Open link) bytes aside units text = puts_event old new (events.Open link) units text
puts_aside old new (entries.Accept partner link) bytes aside units text = puts_event old new (events.Accept partner link) units text
puts_aside old new (entries.Reject partner link) bytes aside units text = puts_event old new (events.Reject partner link) units text
puts_aside old new (entries.In link) bytes aside units text = puts_event old new (events.In link bytes) units text
puts_aside old new (entries.Up link) bytes aside units text = puts_event old new (events.Up link bytes) units text
puts_aside old new (entries.Close link) bytes aside units text = puts_event old new (events.Close link) units text
puts_aside old new entries.Boot bytes aside units text = puts_event old new events.Boot units text
puts_aside old new (entries.Abort link) bytes aside units text = puts_event old new (events.Abort link) units text
puts_aside old new entries.Composed bytes aside units text = puts_event old new (events.Composed bytes) units text
puts_aside old new (entries.Interrupt link) bytes aside units text = puts_event old new (events.Interrupt link bytes) units text
puts_aside old new (entries.Interrupted link) bytes aside units text = puts_event old new (events.Interrupted link bytes) units text

-- ---- what is written are the units that wait no more

sent-follow : (old new : Units) (acts : List (Option Record)) → AllFollow old acts new → units_sent (records_of acts) ++ new.own ≡ old.own
sent-follow old new [] e = ap (λ (u : Units). u.own) e
sent-follow old new (None ∷ acts) (between, (bytes, n), rest) = sent-follow between new acts rest ∙ n.own
sent-follow old new (Some (Sent bytes) ∷ acts) (between, n, rest) =
    ap (λ (units : List (List ℕ)). bytes ∷ units) (sent-follow between new acts rest) ∙ sym n.own
sent-follow old new (Some (Received hint fate bytes) ∷ acts) (between, (e, time, n), rest) = sent-follow between new acts rest ∙ n.own
sent-follow old new (Some (Noise bytes) ∷ acts) (between, e, rest) = sent-follow between new acts rest ∙ ap (λ (u : Units). u.own) e
sent-follow old new (Some (User event) ∷ acts) (between, e, rest) = sent-follow between new acts rest ∙ ap (λ (u : Units). u.own) e

pub puts_units : (old new : Waiting) (p : Puts old new) → units_sent (records_of p.acts) ++ new.units.own ≡ old.units.own
puts_units old new p = sent-follow old.units new.units p.acts p.follow
