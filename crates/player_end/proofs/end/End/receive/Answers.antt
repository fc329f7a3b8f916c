use Rattle.std.proofs.Common.{◌≤◌, Bool, ap, subst, sym, ◌∙◌}
use Rattle.capture_record.specs.declared.limit.TheConstants.{MAX_HINT}
use Rattle.ddcmp_msg.specs.Reading.{ReadingValue, reading_view}
use Rattle.dna_play.specs.Receipt.{carried}
use Rattle.dna_play.specs.StoredEnd.{StoredEnd}
use Rattle.dna_play.specs.StoredStation.{after_arrival}
use Rattle.player_end.specs.inner.Index.{live_of}
use Rattle.player_end.proofs.Came.{receive_lines}
use Rattle.player_end.proofs.end.End.receive.Goals as goal

pub returns-clause-ok : goal.returns-clause-ok
returns-clause-ok g c =
    let s = c.self.inside in
    let read : ReadingValue = reading_view c.args.reading.now in
    let before : StoredEnd = record { head = s.head; station = s.station; links = live_of s.links; addresses = s.addresses; passed = s.passed } in
    rw (← c.self.view_is)
    (receive_lines before c.args.bytes.now read c.args.fate c.args.text.now.items c.put.new.text.items _
    (subst (λ (e : StoredEnd). e.passed ≤ MAX_HINT) (sym c.self.view_is) c.requires.few) c.in_ok-put.ensures.ok
    (c.carried.ensures.message ∙ ap (λ (met : Bool). carried met read) c.is_met.ensures) c.arrive.new.self (live_of c.take.new.links)
    c.take.new.text.items (c.arrive.ensures ∙ ap (λ (kept : Bool). after_arrival read kept s.station) c.is_kept.ensures)
    c.in_ok-take.ensures.ok)
