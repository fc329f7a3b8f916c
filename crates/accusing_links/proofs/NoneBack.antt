-- A side for which records exist sends no acknowledgement alone that goes back.
use Rattle.accusing_links.proofs.Prelude.{◌≡◌, ℕ, ◌≤◌, Bool, true, ◌||◌, Ok, List, [], ◌∷◌, ◌++◌, refl, sym, subst, ap, ◌∙◌, ◌⊎◌, inl, inr, arith}
use Rattle.accusing_links.proofs.Prelude.{MessageValue, ReadingValue, reading, Sound, IsInRange, Head, Tag, body_of, WireStation, Queues, LinkTag}
use Rattle.accusing_links.proofs.Prelude.{WireLinks, WireLayers, content_in_range, Passed, Own, Other, machine, segment_of, said_in, sent_in}
use Rattle.accusing_links.proofs.Prelude.{calls_of}
use Rattle.accusing_links.proofs.{Passing.passed_more, FarLinks.NoneTo, FarLinks.OneTo, Follows.or_second}
use Rattle.accusing_links.proofs.Numbered.{Bears, IsNumbered, label_numbered, sends_numbered, sends_again}
use Rattle.accusing_links.proofs.Numbered.{numbered_more}
use Rattle.accusing_links.proofs.Inverted.{IsSent, Again, NoMessage, First}
use Rattle.accusing_links.proofs.RightNode.{N, P, Right}
use Rattle.accusing_links.proofs.Final.{right_later, AllCame, all_later, one_came, all_pushed}
use Rattle.accusing_links.proofs.AllFollow.{known_more, one_followed, none_followed}
use Rattle.accusing_links.proofs.FollowSends.{Says, sent_follows, sent_none, sent_onward}
use Rattle.accusing_links.proofs.FollowSaid.{IsAtLeast, AreAtLeast, sent_said}
use Rattle.accusing_links.proofs.Phases.{sent_own, sent_other, calls_own, calls_other, calls_in, calls_pushed, words_of, one_of_words}
use Rattle.accusing_links.proofs.Phases.{IsPhase, Follow, said_follows}
use Rattle.accusing_links.proofs.Onwards.{Q, said, Gone, or_cases}
use Rattle.accusing_links.proofs.Claims.{Claim, again_claim, nothing_claim, Tells, first_claim}
use Rattle.accusing_links.proofs.Shown.{shown_none, shown_gone, shown_message, gone_now}

module _ (queues : Queues) (head : Head) (own far : ℕ) where
  abbrev Calls : List Passed → ℕ
  Calls before = calls_of before far

  pub record State (before : List Passed) (s : WireLayers) (coming : List (List ℕ)) : Type 0 where
    pub right : Right queues head before s
    pub came : AllCame queues head before coming
    pub numbered : IsNumbered (Gone before) s.station
    pub less : calls_in coming far ≤ calls_of before far
    pub phase : calls_of before far ≤ 1 →
        IsPhase queues own far (Q own far before) (calls_of before far) (calls_in coming far) (said own far before) s.links.links

  -- where more passed, and nothing more was said
  phase_more : (before later : List Passed) (calls coming more rest : ℕ) (links : WireLinks) → ((n : ℕ) → Q own far before n → Q own far later n) →
      (1 ≤ calls → 1 ≤ more) → (1 ≤ calls → coming ≡ 0 → rest ≡ 0) → ((n : ℕ) → said own far later n ≡ true → said own far before n ≡ true) →
      IsPhase queues own far (Q own far before) calls coming (said own far before) links.links →
      IsPhase queues own far (Q own far later) more rest (said own far later) links.links
  phase_more before later calls coming more rest links passed up none same (inl is) =
      inl (record { none = is.none; silent = λ n e. is.silent n (same n e) })
  phase_more before later calls coming more rest links passed up none same (inr is) = inr (record {
    came = up is.came;
    last = none is.came is.last;
    one = is.one;
    all = λ n e. let was = is.all n (same n e) in record {
      for = was.for;
      same = was.same;
      known = known_more queues own far was.for (Q own far before) (Q own far later) passed links.links was.known;
    };
  })

  -- ---- a unit of the other side passes

  pub other_state : (before : List Passed) (unit : List ℕ) (s : WireLayers) (coming : List (List ℕ)) → State before s coming →
      State (before ++ Other unit ∷ []) s (coming ++ unit ∷ [])
  other_state before unit s coming is =
      let pushed = calls_pushed coming unit far in
      let more = calls_other before unit far in
      let less = is.less in
      record {
        right = right_later queues head before (Other unit) s is.right;
        came = all_pushed queues head (before ++ Other unit ∷ []) coming unit (all_later queues head before (Other unit) coming is.came)
            (one_came queues head before unit);
        numbered = numbered_more (Gone before) (Gone (before ++ Other unit ∷ []))
            (λ num body gone of a b c e. sent_other of before unit a b c ∙ gone of a b c e) s.station is.numbered;
        less = omega (arith, pushed, more, less);
        phase = λ few.
            let fewer : calls_of before far ≤ 1 = omega (arith, few, more) in
            phase_more before (before ++ Other unit ∷ []) (calls_of before far) (calls_in coming far) (calls_of (before ++ Other unit ∷ []) far)
            (calls_in (coming ++ unit ∷ []) far) s.links (λ n. passed_more segment_of before (Other unit) own far n)
            (λ l. omega (arith, l, more)) (λ l e. omega (arith, l, e, pushed, more, few))
            (λ n e. sym (sent_other (λ num. said_in) before unit own far n) ∙ e) (is.phase fewer);
      }

  -- ---- what is known after it

  module _ (before : List Passed) (unit : List ℕ) (s : WireLayers) (coming : List (List ℕ)) (is : State before s coming) (m : MessageValue)
      (read : reading unit ≡ Sound m) where
    abbrev after : List Passed
    after = before ++ Own unit ∷ []

    gone_more : (num : ℕ) (body : List ℕ) → Gone before num body → Gone after num body
    gone_more num body gone of a b c e = sent_own of before unit a b c ∙ or_second (sent_in of (reading unit) a b c) _ (gone of a b c e)

    -- said before, or now
    said_cases : (n : ℕ) → said own far after n ≡ true → (sent_in (λ num. said_in) (Sound m) own far n ≡ true) ⊎ (said own far before n ≡ true)
    said_cases n e =
        or_cases _ _ (ap (λ (r : ReadingValue). sent_in (λ num. said_in) r own far n || said own far before n) (sym read)
        ∙ (sym (sent_own (λ num. said_in) before unit own far n) ∙ e))

    same_calls : calls_of after far ≡ calls_of before far
    same_calls = calls_own before unit far

    -- the phase, by what it is before more is counted
    phase_own : (links : WireLinks) → (more : ℕ → Bool) → ((n : ℕ) → said own far after n ≡ true → more n ≡ true) →
        IsPhase queues own far (Q own far before) (calls_of before far) (calls_in coming far) more links.links →
        IsPhase queues own far (Q own far after) (calls_of after far) (calls_in coming far) (said own far after) links.links
    phase_own links more same (inl b) = inl (record { none = b.none; silent = λ n e. b.silent n (same n e) })
    phase_own links more same (inr a) = inr (record {
      came = let c = a.came in let e = same_calls in omega (arith, c, e);
      last = a.last;
      one = a.one;
      all = λ n e. let was = a.all n (same n e) in record {
        for = was.for;
        same = was.same;
        known = known_more queues own far was.for (Q own far before) (Q own far after) (λ k. passed_more segment_of before (Own unit) own far k)
            links.links was.known;
      };
    })

    own_state : (made : WireLayers) → Right queues head before made → IsNumbered (Gone after) made.station →
        (calls_of before far ≤ 1 →
        IsPhase queues own far (Q own far after) (calls_of after far) (calls_in coming far) (said own far after) made.links.links) →
        State after made coming
    own_state made right numbered phase = record {
      right = right_later queues head before (Own unit) made right;
      came = all_later queues head before (Own unit) coming is.came;
      numbered = numbered;
      less = let l = is.less in let e = same_calls in omega (arith, l, e);
      phase = λ few. phase (let e = same_calls in omega (arith, few, e));
    }

    sent_numbered : (st : WireStation LinkTag × Tag) → machine.sends s.station m ≡ Ok st → IsNumbered (Gone after) st.0
    sent_numbered st sent =
        sends_numbered (Gone after) s.station st.0 m st.1 sent (gone_now before unit m read)
        (numbered_more (Gone before) (Gone after) gone_more s.station is.numbered)

    -- nothing is said by it that was not said before
    quiet : (made : WireLayers) → made.links ≡ s.links → Right queues head before made → IsNumbered (Gone after) made.station →
        ((n : ℕ) → said own far after n ≡ true → said own far before n ≡ true) → State after made coming
    quiet made same right numbered more =
        own_state made right numbered (λ few.
        phase_own made.links (said own far before) more
        (subst (λ (x : WireLinks).
        IsPhase queues own far (Q own far before) (calls_of before far) (calls_in coming far) (said own far before) x.links) (sym same)
        (is.phase few)))

    pub sent_state : (made : WireLayers) → IsSent queues s m made → Right queues head before made →
        Claim queues own far before m × State after made coming
    sent_state made (Again st sent old) right =
        let gone = sends_again (Gone before) s.station st.0 m st.1 sent old is.numbered in (
          again_claim queues own far before m gone,
          quiet made refl right (sent_numbered st sent) (λ n e. again n gone (said_cases n e)),
        )
      where
        again : (n : ℕ) → Bears (Gone before) m → (sent_in (λ num. said_in) (Sound m) own far n ≡ true) ⊎ (said own far before n ≡ true) →
            said own far before n ≡ true
        again n gone (inl now) = shown_gone (λ num. said_in) before m own far n gone now
        again n gone (inr was) = was
    sent_state made (NoMessage st sent new none) right = (
      nothing_claim queues own far before m none,
      quiet made refl right (label_numbered (Gone after) st.0 _ (sent_numbered st sent)) (λ n e. nothing n (said_cases n e)),
    )
      where
        nothing : (n : ℕ) → (sent_in (λ num. said_in) (Sound m) own far n ≡ true) ⊎ (said own far before n ≡ true) → said own far before n ≡ true
        nothing n (inl now) = absurd (shown_none (λ num. said_in) m own far n none now)
        nothing n (inr was) = was
    sent_state made (First st packet sent_links sent new at made_by) right = (
      first_claim queues own far before s.links m packet at (λ few. tells (is.phase few)),
      own_state made right (label_numbered (Gone after) st.0 _ (sent_numbered st sent)) (λ few. next (is.phase few)),
    )
      where
        small : IsInRange packet.message
        small = content_in_range (body_of m) packet at

        none_of : NoneTo far s.links.links → Says own far (λ words. ⊥) packet.message
        none_of none = sent_none (N queues head before) queues own far s.links none packet sent_links made_by

        follows : Follow queues own far (Q own far before) s.links.links sent_links.links.links
        follows least = sent_follows (N queues head before) queues own far s.links least packet small sent_links made_by

        tells : IsPhase queues own far (Q own far before) (calls_of before far) (calls_in coming far) (said own far before) s.links.links →
            Tells queues own far before s.links packet.message
        tells (inl b) = inl (none_of b.none)
        tells (inr a) = inr (
          a.all,
          λ least known.
              sent_onward (N queues head before) queues own far s.links least known packet small sent_links made_by,
        )

        now_none : NoneTo far s.links.links → (n : ℕ) → sent_in (λ num. said_in) (Sound m) own far n ≡ true → ⊥
        now_none none n e =
            (words_of own far (λ words. ⊥) packet.message n (shown_message said_in m packet own far n at e) (none_of none)).2

        now_said : OneTo far s.links.links → (n : ℕ) → sent_in (λ num. said_in) (Sound m) own far n ≡ true →
            IsAtLeast queues own far (Q own far before) sent_links.links.links n
        now_said one n e =
            let words = words_of own far (AreAtLeast queues own far (Q own far before) sent_links.links.links) packet.message n
            (shown_message said_in m packet own far n at e)
            (sent_said (N queues head before) (P queues head before) queues own far s.links is.right.links.right is.right.links.tied one packet small
            sent_links made_by) in
            one_of_words queues own far (Q own far before) sent_links.links.links words.0 n words.1 words.2

        next : IsPhase queues own far (Q own far before) (calls_of before far) (calls_in coming far) (said own far before) s.links.links →
            IsPhase queues own far (Q own far after) (calls_of after far) (calls_in coming far) (said own far after) made.links.links
        next (inl b) = phase_own made.links (said own far after) (λ n e. e) (inl (record {
          none = none_followed queues own far 0 (Q own far before) s.links.links sent_links.links.links (follows 0) b.none;
          silent = λ n e. silent n (said_cases n e);
        }))
          where
            silent : (n : ℕ) → (sent_in (λ num. said_in) (Sound m) own far n ≡ true) ⊎ (said own far before n ≡ true) → ⊥
            silent n (inl now) = now_none b.none n now
            silent n (inr was) = b.silent n was
        next (inr a) = phase_own made.links (said own far after) (λ n e. e) (inr (record {
          came = a.came;
          last = a.last;
          one = one_followed queues own far 0 (Q own far before) s.links.links sent_links.links.links (follows 0) a.one;
          all = λ n e. all n (said_cases n e);
        }))
          where
            all : (n : ℕ) → (sent_in (λ num. said_in) (Sound m) own far n ≡ true) ⊎ (said own far before n ≡ true) →
                IsAtLeast queues own far (Q own far before) sent_links.links.links n
            all n (inl now) = now_said a.one n now
            all n (inr was) =
                said_follows queues own far (Q own far before) s.links.links sent_links.links.links n follows (a.all n was)
