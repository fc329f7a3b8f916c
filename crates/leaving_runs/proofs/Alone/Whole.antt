-- What the program makes of the capture of one end that passes alone passes alone; and whole groups are alike.
use Rattle.leaving_runs.proofs.Prelude.{◌≡◌, ℕ, Bool, true, false, ◌==◌, cond, Option, Some, None, Result, Ok, Err, List, [], ◌∷◌, refl, sym, ap}
use Rattle.leaving_runs.proofs.Prelude.{◌∙◌, subst, arith, IfSome, AllByRecursion, eq-eqb, ne_eqb, A, B, IsRecord, Record, Sent, Received, Noise}
use Rattle.leaving_runs.proofs.Prelude.{User, NspValue, ConnectInitiate, ConnectConfirm, Head, Queues, LinkRefusal, StepRefusal, Carried, content}
use Rattle.leaving_runs.proofs.Prelude.{WireLayersNode, Accused, Passed, PassesBy, Refuses, judged_alone_by, layers_end_by, step_alone, Leaving}
use Rattle.leaving_runs.proofs.Prelude.{is_left, own, about_at_receiver, about_at_sender, bound, confirmed, message_in_packet, message_in_unit}
use Rattle.leaving_runs.proofs.Prelude.{records_left, source_of, destination_of, sent_out, MessageBinds, Leaves, IsJudged, of_content, leaves_at}
use Rattle.leaving_runs.proofs.Prelude.{KnowsHead, IsAlike, RecordAlike, AreAlike, seen_from_there, RecordAlikeAlone, AreAlikeAlone, NamesSender}
use Rattle.leaving_runs.proofs.Prelude.{ComesFromLink, IsJudgedAlone}
use Rattle.capture_record.specs.declared.event.Event.TheVariants as events
use Rattle.dna_station.specs.declared.refusal.StepRefusal.TheVariants.{Links as OfLinks}
use Rattle.leaving_out.specs.Records.{record_left as made_of}
use Rattle.leaving_runs.proofs.Bytes.{content_message}
use Rattle.leaving_runs.proofs.Packets.{packets_fit, sent_same, kept_same}
use Rattle.leaving_runs.proofs.Tied.{one_same, records_same, all_fit}
use Rattle.leaving_runs.proofs.Alone.Packets.{reads_on, stands_in}
use Rattle.leaving_runs.proofs.Alone.Units.{IsJudgedComing, ComesFit}
use Rattle.leaving_runs.proofs.Alone.Runs.{ComesBinding, RecordFitsAlone, IsJudgedHere, end_left, refused_behind}

module _ (leaving : Leaving) where
  abbrev leaves : Leaves
  leaves = leaves_at leaving A B

  comes_fit : (head : Head) → KnowsHead leaving B (seen_from_there head) → ComesFit leaves head.own head.peer
  comes_fit head knows = record {
    fits = packets_fit leaving B A refl (seen_from_there head) knows;
    reads = λ body packet is_bytes held. reads_on leaving B A refl body is_bytes packet held;
    stands = λ body packet is_bytes held from to sent here.
        stands_in leaving B A refl body is_bytes packet held (from ∙ sym knows.own_is) (to ∙ sym knows.peer_is) sent here;
  }

  -- ---- bindings

  -- of a message that came
  message_binds : (o : Option NspValue) → IfSome (confirmed B o) (IsAlike leaving) → NamesSender o → IfSome o (MessageBinds leaves.out)
  message_binds None alike named = tt
  message_binds (Some (ConnectInitiate retransmitted src services info segsize user_data)) alike named =
      λ none. sym (go (src == 0) (eq-eqb src 0 none) alike)
    where
      go : (z : Bool) → z ≡ true → IfSome (cond z (Some (bound B 0 0)) None) (IsAlike leaving) → is_left leaving (own B 0) ≡ is_left leaving (own A 0)
      go true e alike = alike
      go false e alike = absurd cc
  message_binds (Some (ConnectConfirm dst src services info segsize user_data)) alike named = (
    λ none. absurd (omega (arith, named, none)),
    λ one. sym (go (src == 0) (ne_eqb src 0 (λ none. omega (arith, named, none))) (dst == 0)
        (ne_eqb dst 0 (λ none. omega (arith, one, none))) alike),
  )
    where
      go : (y : Bool) → y ≡ false → (z : Bool) → z ≡ false →
          IfSome (cond y (Some (bound B 0 0)) (cond z None (Some (bound B src dst)))) (IsAlike leaving) →
          is_left leaving (own B src) ≡ is_left leaving (own A dst)
      go false e false f alike = alike
      go true e z f alike = absurd cc
      go false e true f alike = absurd cc
  message_binds (Some m) alike named = tt

  comes_binding : (r : Record) → RecordAlikeAlone leaving A r → ComesFromLink r → ComesBinding leaves.out r
  comes_binding (Received hint fate unit) alike named = message_binds (message_in_unit unit) alike named
  comes_binding (Sent unit) alike named = tt
  comes_binding (Noise bytes) alike named = tt
  comes_binding (User event) alike named = tt

  event_alike : (r : Record) → RecordAlikeAlone leaving A r → RecordAlike leaving A r
  event_alike (User event) alike = alike
  event_alike (Sent unit) alike = tt
  event_alike (Received hint fate unit) alike = tt
  event_alike (Noise bytes) alike = tt

  events_alike : (records : List Record) → AreAlikeAlone leaving A records → AreAlike leaving A records
  events_alike [] alike = tt
  events_alike (r ∷ records) alike = (event_alike r alike.0, events_alike records alike.1)

  all_fit_alone : (records : List Record) → AllByRecursion IsRecord records → AreAlikeAlone leaving A records →
      AllByRecursion ComesFromLink records → AllByRecursion (RecordFitsAlone leaves.out) records
  all_fit_alone [] is alike named = tt
  all_fit_alone (r ∷ records) is alike named = (
    ((all_fit leaving A B refl refl (r ∷ []) (is.0, tt) (event_alike r alike.0, tt)).0, comes_binding r alike.0 named.0),
    all_fit_alone records is.1 alike.1 named.1,
  )

  pub program_left_alone : (queues : Queues) (head : Head) (records : List Record) → KnowsHead leaving A head →
      KnowsHead leaving B (seen_from_there head) → AllByRecursion IsRecord records → AreAlikeAlone leaving A records →
      AllByRecursion ComesFromLink records → PassesBy queues head records → PassesBy queues head (records_left leaving A records)
  program_left_alone queues head records knows knows_there is alike named passes =
      subst (PassesBy queues head) (sym (records_same leaving A B refl refl records))
      (end_left queues leaves head (packets_fit leaving A B refl head knows) (comes_fit head knows_there) records
      (all_fit_alone records is alike named) passes)

  -- ---- what is judged

  sent_judged : (o : Option NspValue) → IfSome (about_at_sender A o) (λ address. is_left leaving address ≡ false) →
      IfSome o (λ m. sent_out leaves.out (source_of m) (destination_of m) ≡ false)
  sent_judged None judged = tt
  sent_judged (Some m) judged = sym (sent_same leaving A B refl m) ∙ judged

  comes_judged : (o : Option NspValue) → IfSome (about_at_receiver B o) (λ address. is_left leaving address ≡ false) →
      IfSome (about_at_sender B o) (λ address. is_left leaving address ≡ false) → IfSome o (IsJudgedComing leaves.out)
  comes_judged None here there = tt
  comes_judged (Some m) here there = (sym (kept_same leaving B A refl m) ∙ here, sym (sent_same leaving B A refl m) ∙ there)

  composed_judged : (body : List ℕ) (c : Result (Option Carried) StepRefusal) → content body ≡ c →
      IfSome (about_at_sender A (message_in_packet body)) (λ address. is_left leaving address ≡ false) → IsJudged leaves.out (of_content c)
  composed_judged body (Ok (Some packet)) held judged =
      subst (λ (o : Option NspValue). IfSome o (λ m. sent_out leaves.out (source_of m) (destination_of m) ≡ false))
      (content_message body (Some packet) held) (sent_judged (message_in_packet body) judged)
  composed_judged body (Ok None) held judged = refl
  composed_judged body (Err refusal) held judged = refl

  judged_here : (r : Record) → IsJudgedAlone leaving A r → IsJudgedHere leaves.out r
  judged_here (Sent unit) judged = sent_judged (message_in_unit unit) judged
  judged_here (Received hint fate unit) judged = comes_judged (message_in_unit unit) judged.0 judged.1
  judged_here (Noise bytes) judged = tt
  judged_here (User (events.Open link)) judged = judged
  judged_here (User (events.Accept partner link)) judged = judged
  judged_here (User (events.Reject partner link)) judged = judged
  judged_here (User (events.In link bytes)) judged = judged
  judged_here (User (events.Up link bytes)) judged = judged
  judged_here (User (events.Close link)) judged = judged
  judged_here (User (events.Abort link)) judged = judged
  judged_here (User (events.Composed body)) judged = composed_judged body (content body) refl judged
  judged_here (User event) judged = refl

  pub program_refused_alone : (queues : Queues) (head : Head) (records : List Record) (n : WireLayersNode) → KnowsHead leaving A head →
      KnowsHead leaving B (seen_from_there head) → AllByRecursion IsRecord records → AreAlikeAlone leaving A records →
      AllByRecursion ComesFromLink records → judged_alone_by queues head records ≡ Passed n → (r : Record) → IsRecord r →
      RecordAlikeAlone leaving A r → ComesFromLink r → IsJudgedAlone leaving A r → (accused : Accused) (refusal : LinkRefusal) →
      step_alone (layers_end_by queues) n r ≡ Refuses accused (OfLinks refusal) →
      (left : WireLayersNode) × (judged_alone_by queues head (records_left leaving A records) ≡ Passed left)
      × (step_alone (layers_end_by queues) left (made_of leaving A r) ≡ Refuses accused (OfLinks refusal))
  program_refused_alone queues head records n knows knows_there are alike named passes r is r_alike r_named judged accused refusal refused =
      let after = refused_behind queues leaves head (packets_fit leaving A B refl head knows) (comes_fit head knows_there) records
      (all_fit_alone records are alike named) (n, passes) r (all_fit_alone (r ∷ []) (is, tt) (r_alike, tt) (r_named, tt)).0
      (judged_here r judged) accused refusal refused in (
        after.0,
        ap (judged_alone_by queues head) (records_same leaving A B refl refl records) ∙ after.1,
        ap (step_alone (layers_end_by queues) after.0) (one_same leaving A B refl refl r) ∙ after.2,
      )
