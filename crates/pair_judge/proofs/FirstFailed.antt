-- The first check of a reason, found from the last one on.
use Rattle.std.proofs.Common.{◌≡◌, ℕ, false, Option, Some, None, List, [], ◌∷◌, refl, sym, ap, ◌∙◌, subst, option_map}
use Rattle.wire_base.specs.declared.side.Side.{Side}
use Rattle.capture_record.specs.declared.entry.Entry.{Entry}
use Rattle.capture_record.specs.declared.entry.Entry.TheVariants as entries
use Rattle.capture_record.specs.Entries.{record_with}
use Rattle.dna_links.specs.declared.queue.Queues.{Queues}
use Rattle.dna_node.specs.WireLayers.{WireLayers}
use Rattle.pair_judge.specs.declared.failed_check.FailedCheck.{FailedCheck}
use Rattle.pair_judge.specs.declared.reason.Reason.{Reason}
use Rattle.pair_judge.specs.declared.verdict.Verdict.{Verdict}
use Rattle.pair_judge.specs.declared.verdict.Verdict.TheVariants.{Refused}
use Rattle.pair_judge.specs.Ends.{ShownEnds}
use Rattle.pair_judge.specs.FailedCheck.{failed_record}
use Rattle.pair_judge.specs.FailedIn.{IsFailedIn, IsFirstOf, IsNamedBy, checks_alone, checks_at}
use Rattle.pair_judge.specs.inner.Making.{is_receipt}

-- this check, or else what was found of those behind it
abbrev pub Follows : Reason → (check behind found : Option FailedCheck) → Type 0
Follows reason check behind found = (checks : List (Option FailedCheck)) → IsFirstOf reason checks behind → IsFirstOf reason (check ∷ checks) found

module _ (reason : Reason) where
  pub of_three : (a b c x y z first second third : Option FailedCheck) → x ≡ a → y ≡ b → z ≡ c → Follows reason z None third →
      Follows reason y third second → Follows reason x second first → IsFirstOf reason (a ∷ b ∷ c ∷ []) first
  of_three a b c x y z first second third of_a of_b of_c last next now =
      let same : ◌≡◌ {A = List (Option FailedCheck)} (x ∷ y ∷ z ∷ []) (a ∷ b ∷ c ∷ []) = cc in
      subst (λ (l : List (Option FailedCheck)). IsFirstOf reason l first) same (now (y ∷ z ∷ []) (next (z ∷ []) (last [] refl)))

-- ---- of a verdict

pub failed_in : (queues : Queues) (ends : ShownEnds) (side : Side) (place : ℕ) (reason : Reason) (found : Option FailedCheck) →
    ends.verdict ≡ Refused side place reason → IsFirstOf reason (checks_at queues side ends) found →
    IsFailedIn queues ends (option_map (λ (check : FailedCheck). (side, check)) found)
failed_in queues ends side place reason (Some check) is first =
    subst (λ (verdict : Verdict). IsNamedBy queues ends verdict (Some (side, check))) (sym is) (refl, first)
failed_in queues ends side place reason None is first =
    subst (λ (verdict : Verdict). IsNamedBy queues ends verdict None) (sym is) (tt, first)

-- ---- of one end alone

alone_by : (queues : Queues) (s : WireLayers) (front : ℕ) (entry : Entry) (bytes : List ℕ) → is_receipt entry ≡ false →
    checks_alone queues s front (Some (record_with entry bytes)) ≡ failed_record queues s front [] (record_with entry bytes) ∷ []
alone_by queues s front (entries.Received fate hint) bytes other = absurd (cc)
alone_by queues s front entry bytes other = refl

pub alone_first : (queues : Queues) (reason : Reason) (s : WireLayers) (front : ℕ) (entry : Entry) (bytes : List ℕ)
    (check found : Option FailedCheck) →
    is_receipt entry ≡ false → check ≡ failed_record queues s front [] (record_with entry bytes) → Follows reason check None found →
    IsFirstOf reason (checks_alone queues s front (Some (record_with entry bytes))) found
alone_first queues reason s front entry bytes check found other is follows =
    subst (λ (l : List (Option FailedCheck)). IsFirstOf reason l found)
    (ap (λ (c : Option FailedCheck). c ∷ []) is ∙ sym (alone_by queues s front entry bytes other)) (follows [] refl)
