-- A station goes on as another one with the same variables and causes, whatever its periods.
use Rattle.std.proofs.Common.{◌≡◌, Bool, true, false, cond, Option, Some, None, List, [], ◌∷◌, fold, refl, sym, ap, ap₂, subst, ◌∙◌}
use Rattle.ddcmp_msg.specs.Message.{MessageValue, Data, Ack, Nak, Rep, Strt, Stack}
use Rattle.ddcmp_msg.specs.declared.nak_reason.NakReason.{NakReason}
use Rattle.ddcmp_msg.specs.declared.nak_reason.NakReason.TheVariants.{HeaderCheck, DataCheck}
use Rattle.dna_links.specs.declared.tag.LinkTag.{LinkTag}
use Rattle.dna_station.specs.declared.tag.Tag.{Tag}
use Rattle.dna_station.specs.declared.refusal.StationRefusal.{StationRefusal}
use Rattle.dna_station.specs.NakCauses.{Causes, with_cause, after_nak}
use Rattle.dna_station.specs.Table.{Check, RespIsLast, CauseIsOpen, SomeOutstanding, NumIsHighest, NumIsNext, RoomIfNew, AsFirstGiven, Effect, row}
use Rattle.dna_station.specs.Table.{checks, refusal_of, counts_damage}
use Rattle.dna_station.specs.Book.{ArrivalValue, Sound, HeaderBad, DataBad, first_failed, failed, damaged_by}
use Rattle.dna_station.specs.WireStation.{StationVariables}
use Rattle.dna_station.specs.WireBook.{wire_passes, wire_sending_refusal, wire_after_sending, wire_after_arrival, wire_does}
use Rattle.dna_station.specs.WireBook.{variables_after, causes_after, sends_packet, wire_book}
use Rattle.part_station.specs.Cases.{Known, known_arrival_refusal}

abbrev pub Variables : Type 0
Variables = StationVariables LinkTag

-- with these variables and causes
abbrev known_of : Variables → Causes → Known
known_of v c = record { variables = v; period = 0; partner = None; causes = c }

pub record IsLike (w k : Known) : Type 0 where
  pub variables : w.variables ≡ k.variables
  pub causes : w.causes ≡ k.causes

pub like_itself : (w : Known) → IsLike w w
like_itself w = record { variables = refl; causes = refl }

-- ---- sending

same_passes : (w : Known) (m : MessageValue) (check : Check) → wire_passes w m check ≡ wire_passes (known_of w.variables w.causes) m check
same_passes w m RespIsLast = refl
same_passes w m CauseIsOpen = refl
same_passes w m SomeOutstanding = refl
same_passes w m NumIsHighest = refl
same_passes w m NumIsNext = refl
same_passes w m RoomIfNew = refl
same_passes w m AsFirstGiven = refl

same_first : (f g : Check → Bool) → ((check : Check) → f check ≡ g check) → (list : List Check) → first_failed f list ≡ first_failed g list
same_first f g e [] = refl
same_first f g e (check ∷ next) = ap₂ (λ (b : Bool) (o : Option StationRefusal). cond b o (Some (refusal_of check))) (e check) (same_first f g e next)

same_failed : (f g : Check → Bool) → ((check : Check) → f check ≡ g check) → (list : Option (List Check)) → failed f list ≡ failed g list
same_failed f g e None = refl
same_failed f g e (Some list) = same_first f g e list

refusal_by : (w : Known) (m : MessageValue) → wire_sending_refusal w m ≡ wire_sending_refusal (known_of w.variables w.causes) m
refusal_by w m = same_failed _ _ (same_passes w m) (checks w.variables.state m)

pub like_refusal : (w k : Known) (m : MessageValue) → IsLike w k → wire_sending_refusal w m ≡ wire_sending_refusal k m
like_refusal w k m like =
    refusal_by w m ∙ ap₂ (λ (v : Variables) (c : Causes). wire_sending_refusal (known_of v c) m) like.variables like.causes ∙ sym (refusal_by k m)

pub like_sending : (w k : Known) (m : MessageValue) → IsLike w k → IsLike (wire_after_sending w m) (wire_after_sending k m)
like_sending w k (Data flags resp num body) like =
    record { variables = ap (λ (v : Variables). sends_packet v body) like.variables; causes = like.causes }
like_sending w k (Ack flags resp) like = like
like_sending w k (Nak flags reason resp) like =
    record { variables = like.variables; causes = ap (after_nak (Nak flags reason resp)) like.causes }
like_sending w k (Rep flags num) like = like
like_sending w k (Strt flags) like = like
like_sending w k (Stack flags) like = like

-- ---- arrivals

arrival_by : (w : Known) (arrival : ArrivalValue Tag) (kept : Bool) →
    known_arrival_refusal w arrival kept ≡ known_arrival_refusal (known_of w.variables w.causes) arrival kept
arrival_by w (Sound m tag) kept = refl
arrival_by w HeaderBad kept = refl
arrival_by w DataBad kept = refl

pub like_arrival_refusal : (w k : Known) (arrival : ArrivalValue Tag) (kept : Bool) → IsLike w k →
    known_arrival_refusal w arrival kept ≡ known_arrival_refusal k arrival kept
like_arrival_refusal w k arrival kept like =
    arrival_by w arrival kept
    ∙ ap₂ (λ (v : Variables) (c : Causes). known_arrival_refusal (known_of v c) arrival kept) like.variables like.causes
    ∙ sym (arrival_by k arrival kept)

like_effects : (m : MessageValue) (tag : Tag) (kept : Bool) (effects : List Effect) (w k : Known) → IsLike w k →
    IsLike (fold (wire_does m tag kept) w effects) (fold (wire_does m tag kept) k effects)
like_effects m tag kept [] w k like = like
like_effects m tag kept (effect ∷ next) w k like =
    like_effects m tag kept next (wire_does m tag kept w effect) (wire_does m tag kept k effect) (record {
      variables = ap (λ (v : Variables). variables_after m kept v effect) like.variables;
      causes = ap₂ (λ (v : Variables) (c : Causes). causes_after m kept v c effect) like.variables like.causes;
    })

like_row : (m : MessageValue) (tag : Tag) (kept : Bool) (w k : Known) → IsLike w k →
    IsLike (wire_after_arrival w (Sound m tag) kept) (wire_after_arrival k (Sound m tag) kept)
like_row m tag kept w k like =
    subst (λ (v : Variables). IsLike (fold (wire_does m tag kept) w (row w.variables.state m).effects)
    (fold (wire_does m tag kept) k (row v.state m).effects)) like.variables (like_effects m tag kept (row w.variables.state m).effects w k like)

like_damage : (reason : NakReason) (w k : Known) → IsLike w k → IsLike (damaged_by wire_book reason w) (damaged_by wire_book reason k)
like_damage reason w k like =
    subst (λ (v : Variables). IsLike (damaged_by wire_book reason w) (cond (counts_damage v.state) (wire_book.counts reason k) k)) like.variables
    (go (counts_damage w.variables.state))
  where
    go : (b : Bool) → IsLike (cond b (wire_book.counts reason w) w) (cond b (wire_book.counts reason k) k)
    go true = record { variables = like.variables; causes = ap (with_cause reason) like.causes }
    go false = like

pub like_arrival : (w k : Known) (arrival : ArrivalValue Tag) (kept : Bool) → IsLike w k →
    IsLike (wire_after_arrival w arrival kept) (wire_after_arrival k arrival kept)
like_arrival w k (Sound m tag) kept like = like_row m tag kept w k like
like_arrival w k HeaderBad kept like = like_damage HeaderCheck w k like
like_arrival w k DataBad kept like = like_damage DataCheck w k like
