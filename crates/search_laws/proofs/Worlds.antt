-- Along a run the client sends its request no more often than words pay for.
use Rattle.std.proofs.Common.{◌≡◌, ◌≤◌, ◌+◌, ℕ, List, [], ◌∷◌, ◌++◌, Bool, true, false, cond, Option, Some, None, refl, sym, ap, subst, ◌∙◌, arith, append_assoc, append-nil, if◌then◌else◌}
use Rattle.std.proofs.lemmas.List.Concat.{flat_map-append}
use Rattle.cause_laws.specs.bt_base.specs.Objects.{Contents}
use Rattle.cause_laws.specs.push_script.specs.declared.scenario.Scenario.{Scenario}
use Rattle.cause_laws.specs.push_terms.specs.declared.word.Side.TheVariants.{A, B}
use Rattle.cause_laws.specs.push_terms.specs.declared.word.Way.TheVariants.{Ab, Ba}
use Rattle.cause_laws.specs.push_terms.specs.declared.word.Word.{Word}
use Rattle.cause_laws.specs.push_terms.specs.Words.{IsWord}
use Rattle.cause_laws.specs.acl_fragments.specs.Pieces.{Piece}
use Rattle.cause_laws.specs.push_model.specs.Client.{Client}
use Rattle.cause_laws.specs.radio_model.specs.declared.deed.Deed.{Deed}
use Rattle.cause_laws.specs.radio_model.specs.declared.deed.Deed.TheVariants.{Nothing, Meets, Fires, FiresBoth, Breaks, Cancels}
use Rattle.cause_laws.specs.radio_model.specs.Radio.{Radio, found, is_together}
use Rattle.cause_laws.specs.world_model.specs.Machines.{LinkEvent, Linked, Heard, TimerFired, Cancelled, Opening, Upper}
use Rattle.cause_laws.specs.world_model.specs.Stations.{Station, Effort, Taking, Putting, Asking, Leaving, Commanding, MakesEffort, is_handle, longest_pdu, gives, holds, hears_each, hears_piece, upper_told, event_in, hears_answer, told}
use Rattle.cause_laws.specs.world_model.specs.Worlds.{Happening, Tries, Departure, GivingBack, Piecemeal, Answering, Turns, Misses, Opens, Closes, words_in, all_words, IsAtRest, Acts, Does, Runs}
use Rattle.cause_laws.specs.air_laws.proofs.Following.{runs_then}
use Rattle.cause_laws.specs.host_model.specs.Circumstances.{Circumstance}
use Rattle.cause_laws.specs.host_model.specs.Clients.{ClientProfile}
use Rattle.cause_laws.specs.host_model.specs.Hosts.{Host}
use Rattle.cause_laws.specs.host_model.specs.Servers.{ServerProfile}
use Rattle.cause_laws.specs.scenario_laws.specs.Captures.{client_of, server_of, BothHosts, beginning}
use Rattle.pair_laws.specs.channel_laws.specs.Tries.{one_if}
use Rattle.pair_laws.specs.Costs.{is_adverse, adverse_in}
use Rattle.pair_laws.specs.Enough.{remembering}
use Rattle.pair_laws.proofs.Meeting.{IsRightDeed, word-right, deed_cost, word-cost}
use Rattle.search_laws.specs.Searches.{awaits_reply, HappenedWithMemory, QuietIsPaid, SearchesCostWords}
use Rattle.search_laws.proofs.Deeds.{IsPaid, paid_by, more_paid, one_more_pays}
use Rattle.search_laws.proofs.Hosts.{hears_kept, next_kept, timer_kept}

-- ---- words

adverse_both : (one other : List Word) → adverse_in (one ++ other) ≡ adverse_in one + adverse_in other
adverse_both [] other = omega arith
adverse_both (word ∷ one) other = let rest = adverse_both one other in omega (arith, rest)

pub words_more : (done : List Happening) (happening : Happening) → adverse_in (all_words (done ++ happening ∷ [])) ≡ adverse_in (all_words done) + adverse_in (words_in happening)
words_more done happening = ap adverse_in (flat_map-append words_in done (happening ∷ []) ∙ ap (λ (l : List Word). all_words done ++ l) (append-nil (words_in happening))) ∙ adverse_both (all_words done) (words_in happening)

module _ (scenario : Scenario) (content : Option Contents) where
  abbrev U : Upper (Host ClientProfile) Circumstance
  U = client_of scenario

  abbrev V : Upper (Host ServerProfile) Circumstance
  V = remembering (server_of scenario content)

  abbrev client_in : Station (Host ClientProfile) → Client
  client_in station = station.upper.profile.client

  abbrev client : BothHosts → Client
  client world = world.a.upper.profile.client

  -- ---- one happening, without a timer

  effort_paid : (adverse : ℕ) (effort : Effort) (old new : Station (Host ClientProfile)) → MakesEffort U A effort old new → IsPaid adverse (client_in old) → IsPaid adverse (client_in new)
  effort_paid adverse Taking old new makes paid =
      subst (λ (s : Station (Host ClientProfile)). IsPaid adverse (client_in s)) (sym makes.new_is) (next_kept scenario.settings adverse old.upper makes.pdu makes.after makes.next paid)
  effort_paid adverse Putting old new makes paid = subst (λ (s : Station (Host ClientProfile)). IsPaid adverse (client_in s)) (sym makes.new_is) paid
  effort_paid adverse Asking old new makes paid = subst (λ (s : Station (Host ClientProfile)). IsPaid adverse (client_in s)) (sym makes.new_is) paid
  effort_paid adverse Leaving old new makes paid = subst (λ (s : Station (Host ClientProfile)). IsPaid adverse (client_in s)) (sym makes.new_is) paid
  effort_paid adverse Commanding old new makes paid = subst (λ (s : Station (Host ClientProfile)). IsPaid adverse (client_in s)) (sym makes.new_is) paid

  each_paid : (adverse : ℕ) (g : List Circumstance) (pdus : List (List ℕ)) (host : Host ClientProfile) → IsPaid adverse host.profile.client → IsPaid adverse (hears_each U g pdus host).profile.client
  each_paid adverse g [] host paid = paid
  each_paid adverse g (pdu ∷ pdus) host paid = each_paid adverse g pdus (U.hear g (Heard pdu) host) (hears_kept scenario.settings adverse g (Heard pdu) host tt paid)

  piece_paid : (adverse : ℕ) (g : List Circumstance) (handle : ℕ) (piece : Piece) (s : Station (Host ClientProfile)) → IsPaid adverse (client_in s) → IsPaid adverse (client_in (hears_piece U g handle piece s))
  piece_paid adverse g handle piece s paid = by (is_handle handle s.link)
    where
      by : (here : Bool) → IsPaid adverse (client_in (if here then (let heard : Station (Host ClientProfile) = record s { upper = hears_each U g (gives longest_pdu s.joining piece) s.upper; joining = holds longest_pdu s.joining piece } in heard) else s))
      by true = each_paid adverse g (gives longest_pdu s.joining piece) s.upper paid
      by false = paid

  event_paid : (adverse : ℕ) (g : List Circumstance) (event : Option LinkEvent) (host : Host ClientProfile) → IsPaid adverse host.profile.client → IsPaid adverse (upper_told U g event host).profile.client
  event_paid adverse g None host paid = paid
  event_paid adverse g (Some event) host paid = hears_kept scenario.settings adverse g (Linked event) host (no_timer event) paid
    where
      no_timer : (event : LinkEvent) → Unit {0}
      no_timer event = tt

  -- ---- a word

  -- host a's timer fires, which is paid
  timer_by : (adverse most : ℕ) (g : List Circumstance) (s : Station (Host ClientProfile)) → adverse ≤ most → IsPaid adverse (client_in s) → (awaits_reply (client_in s) ≡ true → (client_in s).tries ≤ (client_in s).left + most) → IsPaid most (client_in (told U g TimerFired s))
  timer_by adverse most g s more paid pays = timer_kept scenario.settings adverse most g s.upper more paid pays

  acts_paid : (adverse most : ℕ) (deed : Deed) (old mid : BothHosts) → Acts U V deed old mid → adverse + deed_cost deed ≤ most → (deed ≡ FiresBoth → awaits_reply (client old) ≡ true → (client old).tries ≤ (client old).left + adverse) → IsPaid adverse (client old) → IsPaid most (client mid)
  acts_paid adverse most Nothing old mid acts cost quiet paid = absurd acts
  acts_paid adverse most (Meets Ab fate) old mid acts cost quiet paid = subst (λ (w : BothHosts). IsPaid most (client w)) (sym acts) (more_paid adverse most (client old) (omega (arith, cost)) paid)
  acts_paid adverse most (Meets Ba fate) old mid acts cost quiet paid = subst (λ (w : BothHosts). IsPaid most (client w)) (sym acts) (more_paid adverse most (client old) (omega (arith, cost)) paid)
  acts_paid adverse most (Fires A) old mid (armed, g, same) cost quiet paid =
      subst (λ (w : BothHosts). IsPaid most (client w)) (sym same) (timer_by adverse most g old.a (omega (arith, cost)) paid (λ awaits. let one = one_more_pays adverse (client old) paid awaits in omega (arith, cost, one)))
  acts_paid adverse most (Fires B) old mid (armed, h, same) cost quiet paid = subst (λ (w : BothHosts). IsPaid most (client w)) (sym same) (more_paid adverse most (client old) (omega (arith, cost)) paid)
  acts_paid adverse most FiresBoth old mid (armed, g, h, same) cost quiet paid = subst (λ (w : BothHosts). IsPaid most (client w)) (sym same) (by (U.armed old.a.upper))
    where
      by : (on : Bool) → IsPaid most (client_in (cond on (told U g TimerFired old.a) old.a))
      by true = timer_by adverse most g old.a (omega (arith, cost)) paid (λ awaits. let now = quiet refl awaits in omega (arith, cost, now))
      by false = more_paid adverse most (client old) (omega (arith, cost)) paid
  acts_paid adverse most Breaks old mid same cost quiet paid = subst (λ (w : BothHosts). IsPaid most (client w)) (sym same) (more_paid adverse most (client old) (omega (arith, cost)) paid)
  acts_paid adverse most Cancels old mid (may, g, same) cost quiet paid =
      subst (λ (w : BothHosts). IsPaid most (client w)) (sym same) (more_paid adverse most (client_in (told U g Cancelled old.a)) (omega (arith, cost)) (hears_kept scenario.settings adverse g Cancelled old.a.upper tt paid))

  pub both_empty : (word : Word) (radio : Radio) → IsWord word → found word radio ≡ FiresBoth → (radio.a.waiting ≡ []) × (radio.b.waiting ≡ [])
  both_empty word radio is both =
      subst (λ (deed : Deed). IsRightDeed false deed radio.a.waiting radio.b.waiting) both (word-right false word radio.served radio.a.waiting radio.b.waiting (is_together radio.phase) is (λ e. cc))

  -- ---- all of them

  -- where it is quiet and both timers fire, it is paid
  abbrev Quiet : (adverse : ℕ) → BothHosts → Type 0
  Quiet adverse old = IsAtRest U V old → old.radio.a.waiting ≡ [] → old.radio.b.waiting ≡ [] → awaits_reply (client old) ≡ true → (client old).tries ≤ (client old).left + adverse

  does_paid : (adverse : ℕ) (happening : Happening) (old new : BothHosts) → Does U V happening old new → Quiet adverse old → IsPaid adverse (client old) → IsPaid (adverse + adverse_in (words_in happening)) (client new)
  does_paid adverse happening old new does quiet paid = by happening does
    where
      same : (most : ℕ) → adverse ≤ most → new.a.upper ≡ old.a.upper → IsPaid most (client new)
      same most more is = subst (λ (h : Host ClientProfile). IsPaid most h.profile.client) (sym is) (more_paid adverse most (client old) more paid)

      other : (most : ℕ) (s : Station (Host ClientProfile)) → adverse ≤ most → new.a ≡ s → IsPaid adverse (client_in s) → IsPaid most (client new)
      other most s more is now = subst (λ (t : Station (Host ClientProfile)). IsPaid most (client_in t)) (sym is) (more_paid adverse most (client_in s) more now)

      by : (happening : Happening) → Does U V happening old new → IsPaid (adverse + adverse_in (words_in happening)) (client new)
      by (Tries A effort) (station, makes, is) = other (adverse + 0) station (omega arith) (ap (λ (w : BothHosts). w.a) is) (effort_paid adverse effort old.a station makes paid)
      by (Tries B effort) (station, makes, is) = same (adverse + 0) (omega arith) (ap (λ (w : BothHosts). w.a.upper) is)
      by (Departure A order) (rest, first, is) = same (adverse + 0) (omega arith) (ap (λ (w : BothHosts). w.a.upper) is)
      by (Departure B order) (rest, first, is) = same (adverse + 0) (omega arith) (ap (λ (w : BothHosts). w.a.upper) is)
      by (GivingBack side) is = same (adverse + 0) (omega arith) (ap (λ (w : BothHosts). w.a.upper) is)
      by (Piecemeal A handle piece) (rest, first, here, g, is) = other (adverse + 0) (hears_piece U g handle piece old.a) (omega arith) (ap (λ (w : BothHosts). w.a) is) (piece_paid adverse g handle piece old.a paid)
      by (Piecemeal B handle piece) (rest, first, here, h, is) = same (adverse + 0) (omega arith) (ap (λ (w : BothHosts). w.a.upper) is)
      by (Answering A answer) (rest, none, first, g, is) = other (adverse + 0) (hears_answer U g A answer old.a) (omega arith) (ap (λ (w : BothHosts). w.a) is) (event_paid adverse g (event_in answer old.a) old.a.upper paid)
      by (Answering B answer) (rest, none, first, h, is) = same (adverse + 0) (omega arith) (ap (λ (w : BothHosts). w.a.upper) is)
      by (Turns ordinal word) (rest, is_word, ordinal_is, mid, acts, is) =
          let most : ℕ = adverse + (one_if (is_adverse word) + 0) in
          let cost = word-cost word old.radio.served old.radio.a.waiting old.radio.b.waiting (is_together old.radio.phase) in
          let after = acts_paid adverse most (found word old.radio) old mid acts (omega (arith, cost)) (λ both awaits. let none = both_empty word old.radio is_word both in quiet rest none.0 none.1 awaits) paid in
          subst (λ (h : Host ClientProfile). IsPaid most h.profile.client) (sym (ap (λ (w : BothHosts). w.a.upper) is)) after
      by (Misses word) (rest, nothing, is) = same (adverse + (one_if (is_adverse word) + 0)) (omega arith) (ap (λ (w : BothHosts). w.a.upper) is)
      by (Opens push name) (idle, next, push_is, g, is) = other (adverse + 0) (told U g (Opening name) old.a) (omega arith) (ap (λ (w : BothHosts). w.a) is) (hears_kept scenario.settings adverse g (Opening name) old.a.upper tt paid)
      by (Closes push outcome) (going, push_is, idle, outcome_is, apart, none_a, none_b, quiet_a, quiet_b, is) = same (adverse + 0) (omega arith) (ap (λ (w : BothHosts). w.a.upper) is)

  pub all_paid : (happenings done rest : List Happening) (now new : BothHosts) → happenings ≡ done ++ rest → QuietIsPaid scenario content happenings → HappenedWithMemory scenario content done now → Runs U V rest now new → IsPaid (adverse_in (all_words done)) (client now)
      → IsPaid (adverse_in (all_words happenings)) (client new)
  all_paid happenings done [] now new is quiet runs same paid =
      subst (λ (l : List Happening). IsPaid (adverse_in (all_words l)) (client new)) (sym (is ∙ append-nil done)) (subst (λ (w : BothHosts). IsPaid (adverse_in (all_words done)) (client w)) (sym same) paid)
  all_paid happenings done (happening ∷ rest) now new is quiet runs (mid, does, later) paid =
      all_paid happenings (done ++ happening ∷ []) rest mid new (is ∙ sym (append_assoc done (happening ∷ []) rest)) quiet (runs_then U V done happening (beginning scenario content) now mid runs does) later
      (subst (λ (n : ℕ). IsPaid n (client mid)) (sym (words_more done happening))
      (does_paid (adverse_in (all_words done)) happening now mid does (λ at_rest none_a none_b awaits. quiet done (happening ∷ rest) now is runs at_rest none_a none_b awaits) paid))

pub searches-cost_words : SearchesCostWords
searches-cost_words scenario content happenings world happened quiet =
    paid_by (adverse_in (all_words happenings)) world.a.upper.profile.client (all_paid scenario content happenings [] happenings (beginning scenario content) world refl quiet refl happened tt)
