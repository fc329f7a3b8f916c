-- What is to be shown of a record that is made at one node beside the other: the links meet one of their records, and what is left of the record is
-- made of what is left.
use Rattle.leaving_runs.proofs.Prelude.{◌≡◌, ℕ, ◌≤◌, ◌<◌, not, Ok, length, refl, subst, Half, Outcome, stepped, advance, Made, one_half, Record}
use Rattle.leaving_runs.proofs.Prelude.{StepRefusal, Station, step, Queues, Numbers, Links, judged_by, Layers, LayersNode, LayersUnit}
use Rattle.leaving_runs.proofs.Prelude.{layers_machine, side_of, LinkRecord, OfNoLink, true_rules, next_links, is_out, Judged, other_out}
use Rattle.leaving_runs.proofs.Prelude.{other_judged, SideRight, RecordRight, Leaves, other_leaves, half_left, record_left}

-- ---- what becomes of it

module _ (queues : Queues) (leaves : Leaves) (judged : Judged) (own other : Half LayersNode LayersUnit)
    (mine : SideRight leaves.out judged (side_of own 0) (side_of other 0))
    (theirs : SideRight (other_out leaves.out) (other_judged judged) (side_of other 0) (side_of own 0)) where
  abbrev pub s : Layers
  s = own.state.station

  abbrev pub own_left : Half LayersNode LayersUnit
  own_left = half_left leaves judged own

  abbrev pub other_left : Half LayersNode LayersUnit
  other_left = half_left (other_leaves leaves) (other_judged judged) other

  -- the link that a record begins has its mark
  abbrev pub AreMarked : LinkRecord Numbers → Half LayersNode LayersUnit → Type 0
  AreMarked one h = (n : ℕ) → length s.links.links ≤ n → n < length h.state.station.links.links → judged.here n ≡ not (is_out leaves.out one)

  pub record BothRight (h : Half LayersNode LayersUnit) : Type 0 where
    pub here : SideRight leaves.out judged (side_of h 0) (side_of other 0)
    pub there : SideRight (other_out leaves.out) (other_judged judged) (side_of other 0) (side_of h 0)

  -- the other side does not look at the place after the last packet kept
  pub both_right : (h : Half LayersNode LayersUnit) (front : ℕ) → SideRight leaves.out judged (side_of h front) (side_of other 0) →
      SideRight (other_out leaves.out) (other_judged judged) (side_of other 0) (side_of h front) → BothRight h
  both_right h front here there = record {
    here = record { fit = here.fit; known = here.known; sent = here.sent };
    there = record { fit = there.fit; known = there.known; sent = there.sent };
  }

  abbrev pub made_left : Record → Half LayersNode LayersUnit → Type 0
  made_left r h = advance (step (layers_machine (judged_by queues))) own_left other_left (record_left leaves r) ≡ Made (half_left leaves judged h)

  pub record Along (r : Record) (one : LinkRecord Numbers) (h : Half LayersNode LayersUnit) : Type 0 where
    pub made_is : next_links (true_rules queues) s.links one ≡ Ok h.state.station.links
    pub right : RecordRight queues leaves.out judged (side_of own 0) (side_of other 0) mine theirs one
    pub sides : AreMarked one h → BothRight h
    pub left : AreMarked one h → made_left r h

  pub along_at : (r : Record) (one : LinkRecord Numbers) (g h : Half LayersNode LayersUnit) →
      ◌≡◌ {A = Outcome LayersNode LayersUnit StepRefusal} (Made g) (Made h) → Along r one g → Along r one h
  along_at r one g h e along = subst (Along r one) (one_half {Z = StepRefusal} g h e) along

  pub nothing_right : RecordRight queues leaves.out judged (side_of own 0) (side_of other 0) mine theirs OfNoLink
  nothing_right = record { right = tt; right_of_all = tt }

  -- nothing is done to the links, and no packet is first sent
  abbrev pub station_half : Station → (front : ℕ) → Half LayersNode LayersUnit
  station_half station front =
      stepped own (record { head = own.state.head; station = record s { station = station }; front = front })

  pub along_station : (r : Record) (station : Station) (front : ℕ) → made_left r (station_half station front) →
      Along r OfNoLink (station_half station front)
  along_station r station front made = record {
    made_is = refl;
    right = nothing_right;
    sides = λ marks. record {
      here = record { fit = mine.fit; known = mine.known; sent = mine.sent };
      there = record { fit = theirs.fit; known = theirs.known; sent = theirs.sent };
    };
    left = λ marks. made;
  }

  -- the links change
  abbrev pub links_half : Station → Links → (front : ℕ) → Half LayersNode LayersUnit
  links_half station links front =
      stepped own (record { head = own.state.head; station = record { station = station; links = links; messages = s.messages }; front = front })
