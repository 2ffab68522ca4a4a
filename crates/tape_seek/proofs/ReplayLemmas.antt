-- Replays: more chunks, fewer of them, and what is kept through each.
use Rattle.std.proofs.Common.{◌≡◌, ◌≢◌, ℕ, zero, suc, ◌+◌, ◌-◌, ◌*◌, ◌/◌, ◌%◌, ◌<◌, ◌≤◌, List, [], ◌∷◌, ◌++◌, length, take, drop, get_or, refl, sym, ap, subst, ◌∙◌, inl, inr, arith, append-nil, length-append}
use Rattle.std.specs.Prelude.{Box, Vec}
use Rattle.std.proofs.lemmas.Bool.{cases_lt}
use Rattle.std.specs.declared.alloc.Global.{Global}
use Rattle.std.proofs.Math.Seq.{take-add, take-append_seam}
use Rattle.std.proofs.Math.Nat.{div-eq_of_lt, zero-mul, suc-mul, div-mul-le_self, mul-le-mul_right}
use Rattle.std.proofs.lemmas.Nat.{div-add-mod', div-mul-add, le-div, mod_below}
use Rattle.std.proofs.lemmas.Grind.{flat_map-append}
use Rattle.std.proofs.lemmas.List.{drop_all, get_or_append_left, get_or_default, get_or_push, length-take, length_push, take-take, take_all}
use Rattle.tape_core.specs.declared.chunk.Chunk.{Chunk}
use Rattle.tape_core.specs.Due.{first}
use Rattle.tape_core.specs.Tape.{body}
use Rattle.tape_core.proofs.FirstLemmas.{first-more_of}
use Rattle.plays.specs.declared.plays.Plays.{Ghosts}
use Rattle.plays.specs.Sink.{HasRoom, Sink, after_sending}
use Rattle.tape_seek.specs.declared.replay.Replay.{Replay}
use Rattle.tape_seek.specs.Kept.{HasSent, HoldsUpTo, IsAhead, IsKept, IsPlaying, IsReplay, PlaysOn, SameFront, SendsInParts, StandsAt, Stores, TellsOfNothing, sent_after}
use Rattle.tape_seek.specs.Marks.{multiple_below}

-- what stays, by its parts
pub plays_on : {T P K : Type 0} (old new : Replay T P K) → new.profile ≡ old.profile → new.every ≡ old.every → PlaysOn old new
plays_on old new profile every = record { profile = profile; every = every }

module _ {T P K : Type 0} (p : Ghosts T P K) where
  -- ---- before the first chunk

  pub sent_none : ((profile : P) → p.sent profile [] ≡ []) → (profile : P) (chunks : List Chunk) → sent_after p profile chunks 0 ≡ []
  sent_none nothing profile chunks = nothing profile

  -- ---- one chunk more

  pub sent_more : SendsInParts p → (profile : P) (chunks : List Chunk) (at : ℕ) (c : Chunk)
      → at < length chunks → get_or chunks at c ≡ c
      → sent_after p profile chunks (at + 1) ≡ sent_after p profile chunks at ++ p.replies profile (first chunks at) c.bytes
  sent_more parts profile chunks at c lt is = ap (p.sent profile) (first-more_of chunks at c lt is) ∙ parts profile (first chunks at) c.bytes

  -- ---- fewer chunks

  -- what was sent by a count begins with what was sent by an earlier one
  sent_split : SendsInParts p → (profile : P) (chunks : List Chunk) (n m : ℕ) → n ≤ m
      → sent_after p profile chunks m ≡ sent_after p profile chunks n ++ p.replies profile (first chunks n) (body (take (m - n) (drop n chunks)))
  sent_split parts profile chunks n m le =
      let whole : n + (m - n) ≡ m = omega arith in
      let cut : first chunks m ≡ first chunks n ++ body (take (m - n) (drop n chunks)) =
      ap (first chunks) (sym whole) ∙ ap body (take-add n (m - n) chunks) ∙ flat_map-append (λ (c : Chunk). c.bytes) (take n chunks) (take (m - n) (drop n chunks)) in
      ap (p.sent profile) cut ∙ parts profile (first chunks n) (body (take (m - n) (drop n chunks)))

  pub sent_rises : SendsInParts p → (profile : P) (chunks : List Chunk) (n m : ℕ) → n ≤ m
      → length (sent_after p profile chunks n) ≤ length (sent_after p profile chunks m)
  sent_rises parts profile chunks n m le =
      let more = p.replies profile (first chunks n) (body (take (m - n) (drop n chunks))) in
      omega (arith, ap length (sent_split parts profile chunks n m le), length-append (sent_after p profile chunks n) more)

  pub sent_front : SendsInParts p → (profile : P) (chunks : List Chunk) (n m : ℕ) → n ≤ m
      → take (length (sent_after p profile chunks n)) (sent_after p profile chunks m) ≡ sent_after p profile chunks n
  sent_front parts profile chunks n m le = ap (take (length (sent_after p profile chunks n))) (sent_split parts profile chunks n m le) ∙ take-append_seam (sent_after p profile chunks n) _

  -- a front of a longer front
  front_of_front : (few many : List ℕ) (list : List ℕ) → length few ≤ length many → take (length many) list ≡ many
      → take (length few) many ≡ few → take (length few) list ≡ few
  front_of_front few many list le front fewer = sym (take-take (length few) (length many) list le) ∙ ap (take (length few)) front ∙ fewer

  -- a front is no longer than its list
  pub front_within : (few list : List ℕ) → take (length few) list ≡ few → length few ≤ length list
  front_within few list front = omega (arith, ap length front, length-take (length few) list)

  pub div_rises : (n m every : ℕ) → 0 < every → n ≤ m → n / every ≤ m / every
  div_rises n m every some le = le-div (n / every) m every some (omega (arith, div-mul-le_self n every))

  pub holds_less : SendsInParts p → (chunks : List Chunk) (n m : ℕ) (r : Replay T P K) → n ≤ m → HoldsUpTo p chunks m r
      → HoldsUpTo p chunks n r
  holds_less parts chunks n m r le h =
      let fewer = div_rises n m r.every h.every le in
      record {
        every = h.every;
        within = omega (arith, h.within);
        terminals = omega (arith, h.terminals);
        stored = λ k d lt. h.stored k d (omega arith);
        counts = omega (arith, h.counts);
        sent = λ k low. h.sent k (omega arith);
        reports = front_of_front (sent_after p r.profile chunks n) (sent_after p r.profile chunks m) r.reports.bytes (sent_rises parts r.profile chunks n m le) h.reports (sent_front parts r.profile chunks n m le);
      }

  -- what is kept stays right where the list of reports only grew
  pub holds_grown : (chunks : List Chunk) (n : ℕ) (r new : Replay T P K) → new.profile ≡ r.profile → new.every ≡ r.every
      → new.stored ≡ r.stored → new.sent ≡ r.sent
      → take (length r.reports.bytes) new.reports.bytes ≡ r.reports.bytes → HoldsUpTo p chunks n r → HoldsUpTo p chunks n new
  holds_grown chunks n r new profile every stored counts front h = record {
    every = rw every h.every;
    within = h.within;
    terminals = rw (every, stored) h.terminals;
    stored = rw (profile, every, stored) h.stored;
    counts = rw counts h.counts;
    sent = rw (profile, counts) h.sent;
    reports = rw profile (front_of_front (sent_after p r.profile chunks n) r.reports.bytes new.reports.bytes (front_within (sent_after p r.profile chunks n) r.reports.bytes h.reports) front h.reports);
  }

  -- ---- the head

  pub multiple_within : (every count : ℕ) → multiple_below every count ≤ count
  multiple_within every count = div-mul-le_self count every

  -- before the first chunk
  pub stands_first : TellsOfNothing p → (profile : P) (chunks : List Chunk) (seen : T) → p.shows profile seen []
      → StandsAt p profile seen chunks 0
  stands_first nothing profile chunks seen shows = record { shows = shows; told = nothing profile seen [] shows }

  pub working_reset : TellsOfNothing p → (profile : P) (chunks : List Chunk) (every count : ℕ) (seen : T) → count / every ≡ 0
      → p.shows profile seen [] → StandsAt p profile seen chunks (multiple_below every count)
  working_reset nothing profile chunks every count seen none shows =
      let place : multiple_below every count ≡ 0 = ap (λ n. n * every) none ∙ zero-mul every in
      rw place (stands_first nothing profile chunks seen shows)

  pub working_stored : (chunks : List Chunk) (count : ℕ) (r : Replay T P K) (b : Box K Global) → count / r.every ≢ 0
      → HoldsUpTo p chunks count r
      → b ≡ get_or r.stored.items (count / r.every - 1) b
      → p.keeps r.profile b.value (first chunks (multiple_below r.every count))
  working_stored chunks count r b some h is =
      let back : count / r.every - 1 + 1 ≡ count / r.every = omega arith in
      let there = h.stored (count / r.every - 1) b (omega arith) in
      let shows : p.keeps r.profile b.value (first chunks ((count / r.every - 1 + 1) * r.every)) = rw is there in
      subst (λ (n : ℕ). p.keeps r.profile b.value (first chunks (n * r.every))) back shows

  -- ---- the next chunk, by its bytes

  next_shows : (profile : P) (chunks : List Chunk) (at : ℕ) (c : Chunk)
      → at < length chunks → get_or chunks at c ≡ c → (seen : T) (bytes : List ℕ) → bytes ≡ c.bytes
      → p.shows profile seen (first chunks at ++ bytes) → p.shows profile seen (first chunks (at + 1))
  next_shows profile chunks at c lt is seen bytes same shows = subst (p.shows profile seen) (ap (λ (l : List ℕ). first chunks at ++ l) same ∙ sym (first-more_of chunks at c lt is)) shows

  pub next_stands : (profile : P) (chunks : List Chunk) (at : ℕ) (c : Chunk)
      → at < length chunks → get_or chunks at c ≡ c → (seen : T) (bytes : List ℕ) → bytes ≡ c.bytes
      → p.shows profile seen (first chunks at ++ bytes) → p.told profile seen (first chunks at)
      → StandsAt p profile seen chunks (at + 1)
  next_stands profile chunks at c lt is seen bytes same shows told =
      let back : at + 1 - 1 ≡ at = omega arith in
      record {
        shows = next_shows profile chunks at c lt is seen bytes same shows;
        told = rw back told;
      }

  next_length : SendsInParts p → (profile : P) (chunks : List Chunk) (at : ℕ) (c : Chunk)
      → at < length chunks → get_or chunks at c ≡ c → (bytes : List ℕ) → bytes ≡ c.bytes
      → length (sent_after p profile chunks (at + 1)) ≡ length (sent_after p profile chunks at) + length (p.replies profile (first chunks at) bytes)
  next_length parts profile chunks at c lt is bytes same =
      ap length (sent_more parts profile chunks at c lt is) ∙ length-append (sent_after p profile chunks at) (p.replies profile (first chunks at) c.bytes)
      ∙ ap (λ (l : List ℕ). length (sent_after p profile chunks at) + length (p.replies profile (first chunks at) l)) (sym same)

  pub next_sent : SendsInParts p → (chunks : List Chunk) (r new : Replay T P K) (c : Chunk)
      → r.head < length chunks → get_or chunks r.head c ≡ c → (bytes : List ℕ) → bytes ≡ c.bytes
      → r.reports.place ≡ length (sent_after p r.profile chunks r.head)
      → new.reports ≡ after_sending r.reports (p.replies r.profile (first chunks r.head) bytes) → HasSent p chunks r new
  next_sent parts chunks r new c lt is bytes same place sends =
      let more = p.replies r.profile (first chunks r.head) bytes in
      let len = next_length parts r.profile chunks r.head c lt is bytes same in
      let whole : sent_after p r.profile chunks (r.head + 1) ≡ sent_after p r.profile chunks r.head ++ more
      = sent_more parts r.profile chunks r.head c lt is ∙ ap (λ (l : List ℕ). sent_after p r.profile chunks r.head ++ p.replies r.profile (first chunks r.head) l) (sym same) in
      record {
        place = ap (λ (s : Sink). s.place) sends ∙ ap (λ (n : ℕ). n + length more) place ∙ sym len;
        within = λ le.
            let none : drop (length r.reports.bytes - r.reports.place) more ≡ [] = drop_all (length r.reports.bytes - r.reports.place) more (omega arith) in
            ap (λ (s : Sink). s.bytes) sends ∙ ap (λ (l : List ℕ). r.reports.bytes ++ l) none ∙ append-nil r.reports.bytes;
        behind = λ all.
            let none : length r.reports.bytes - r.reports.place ≡ 0 = omega (arith, ap length all) in
            ap (λ (s : Sink). s.bytes) sends ∙ ap (λ (n : ℕ). r.reports.bytes ++ drop n more) none ∙ ap (λ (l : List ℕ). l ++ more) all ∙ sym whole;
      }

  pub has_room : SendsInParts p → (chunks : List Chunk) (r : Replay T P K) (c : Chunk)
      → r.head < length chunks → get_or chunks r.head c ≡ c → (bytes : List ℕ) → bytes ≡ c.bytes
      → r.reports.place ≡ length (sent_after p r.profile chunks r.head)
      → length (sent_after p r.profile chunks (r.head + 1)) ≤ length r.reports.bytes
      → HasRoom r.reports (p.replies r.profile (first chunks r.head) bytes)
  has_room parts chunks r c lt is bytes same place le =
      let len = next_length parts r.profile chunks r.head c lt is bytes same in
      omega arith

  -- after the chunk was fed within the frontier
  pub fed_within : SendsInParts p → (chunks : List Chunk) (r new : Replay T P K) → IsPlaying p chunks r
      → new ≡ record r { working = new.working; reports = new.reports; head = r.head + 1; fed = r.fed + 1 }
      → StandsAt p r.profile new.working chunks (r.head + 1) → HasSent p chunks r new → new.head ≤ new.frontier
      → IsPlaying p chunks new
  fed_within parts chunks r new playing rest stands sends within =
      let kept = playing.replay.kept in
      let low : r.head + 1 ≤ r.frontier = omega (arith, within, ap (λ (x : Replay T P K). x.head) rest, ap (λ (x : Replay T P K). x.frontier) rest) in
      let same : new.reports.bytes ≡ r.reports.bytes = sends.within (omega (arith, sent_rises parts r.profile chunks (r.head + 1) r.frontier low, ap length kept.reports)) in
      let front : take (length r.reports.bytes) new.reports.bytes ≡ r.reports.bytes = ap (take (length r.reports.bytes)) same ∙ take_all (length r.reports.bytes) r.reports.bytes (omega arith) in
      let moved : Replay T P K = record r { working = new.working; reports = new.reports; head = r.head + 1; fed = r.fed + 1 } in
      let here : IsPlaying p chunks moved = record {
        replay = record {
          kept = record {
            holds = holds_grown chunks r.frontier r moved refl refl refl refl front kept.holds;
            terminals = kept.terminals;
            counts = kept.counts;
            reports = same ∙ kept.reports;
          };
          behind = low;
          working = stands;
        };
        place = sends.place;
      } in
      subst (IsPlaying p chunks) (sym rest) here

  -- after the chunk at the frontier was fed
  pub fed_ahead : (chunks : List Chunk) (r new : Replay T P K) → IsPlaying p chunks r → r.head < length chunks
      → new ≡ record r { working = new.working; reports = new.reports; head = r.head + 1; fed = r.fed + 1 }
      → StandsAt p r.profile new.working chunks (r.head + 1) → HasSent p chunks r new
      → take (length r.reports.bytes) new.reports.bytes ≡ r.reports.bytes → new.frontier < new.head → IsAhead p chunks new
  fed_ahead chunks r new playing lt rest stands sends front past =
      let kept = playing.replay.kept in
      let at : r.head ≡ r.frontier = omega (arith, past, playing.replay.behind, ap (λ (x : Replay T P K). x.head) rest, ap (λ (x : Replay T P K). x.frontier) rest) in
      let moved : Replay T P K = record r { working = new.working; reports = new.reports; head = r.head + 1; fed = r.fed + 1 } in
      let here : IsAhead p chunks moved = record {
        holds = holds_grown chunks r.frontier r moved refl refl refl refl front kept.holds;
        terminals = kept.terminals;
        counts = kept.counts;
        head = ap (λ n. n + 1) at;
        within = omega arith;
        working = stands;
        reports = sends.behind (kept.reports ∙ ap (sent_after p r.profile chunks) (sym at));
        place = sends.place;
      } in
      subst (IsAhead p chunks) (sym rest) here

  -- ---- the frontier moves on

  div_next : (n every : ℕ) → 0 < every → (n + 1) % every ≡ 0 → (n + 1) / every ≡ n / every + 1
  div_next n every some whole = from ((n + 1) / every) refl
    where
      from : (q : ℕ) → (n + 1) / every ≡ q → (n + 1) / every ≡ n / every + 1
      from zero is = absurd (let all = div-add-mod' (n + 1) every in let none : (n + 1) / every * every ≡ 0 = ap (λ k. k * every) is ∙ zero-mul every in omega arith)
      from (suc q) is =
          let all = div-add-mod' (n + 1) every in
          let parts : (n + 1) / every * every ≡ q * every + every = ap (λ k. k * every) is ∙ suc-mul q every in
          let back : n ≡ q * every + (every - 1) = omega arith in
          let less : n / every ≡ q = ap (λ k. k / every) back ∙ div-mul-add q every (every - 1) (omega arith) in
          omega arith

  div_same : (n every : ℕ) → 0 < every → (n + 1) % every ≢ 0 → (n + 1) / every ≡ n / every
  div_same n every some part =
      let all = div-add-mod' (n + 1) every in
      let low = mod_below (n + 1) every some in
      let back : n ≡ (n + 1) / every * every + ((n + 1) % every - 1) = omega arith in
      sym (ap (λ k. k / every) back ∙ div-mul-add ((n + 1) / every) every ((n + 1) % every - 1) (omega arith))

  -- the terminals up to the head are stored
  pub record IsGrown (chunks : List Chunk) (r grown : Replay T P K) : Type 0 where
    pub rest : grown ≡ record r { stored = grown.stored }
    pub terminals : length grown.stored.items ≡ r.head / r.every
    pub stored : (k : ℕ) (d : Box K Global) → k < r.head / r.every
        → p.keeps r.profile (get_or grown.stored.items k d).value (first chunks ((k + 1) * r.every))

  pub grown_same : (chunks : List Chunk) (r : Replay T P K) → IsAhead p chunks r → r.head % r.every ≢ 0 → IsGrown chunks r r
  grown_same chunks r ahead part =
      let same : r.head / r.every ≡ r.frontier / r.every = ap (λ n. n / r.every) ahead.head ∙ div_same r.frontier r.every ahead.holds.every (λ e. part (ap (λ n. n % r.every) ahead.head ∙ e)) in
      record {
        rest = refl;
        terminals = ahead.terminals ∙ sym same;
        stored = λ k d lt. ahead.holds.stored k d (omega arith);
      }

  stored_more : (items : List (Box K Global)) (copy : Box K Global) (k n : ℕ) (d : Box K Global)
      → length items ≡ n → k < n → get_or (items ++ copy ∷ []) k d ≡ get_or items k d
  stored_more items copy k n d len lt = get_or_append_left items (copy ∷ []) d k (omega arith)

  pub grown_more : (chunks : List Chunk) (r new : Replay T P K) → IsAhead p chunks r → r.head % r.every ≡ 0 → Stores p r new
      → new ≡ record r { stored = new.stored } → IsGrown chunks r new
  grown_more chunks r new ahead whole stores rest =
      let next : r.head / r.every ≡ r.frontier / r.every + 1 = ap (λ n. n / r.every) ahead.head ∙ div_next r.frontier r.every ahead.holds.every (ap (λ n. n % r.every) (sym ahead.head) ∙ whole) in
      let n = r.frontier / r.every in
      let place : (n + 1) * r.every ≡ r.head = ap (λ k. k * r.every) (sym next) ∙ exact r.head r.every whole in
      let at_end : (d : Box K Global) → p.keeps r.profile (get_or new.stored.items n d).value (first chunks ((n + 1) * r.every))
      = λ d. subst (λ (b : Box K Global). p.keeps r.profile b.value (first chunks ((n + 1) * r.every))) (sym (ap (λ (l : List (Box K Global)). get_or l n d) stores.stored ∙ get_or_push r.stored.items stores.copy d n ahead.terminals))
      (rw place (stores.value (first chunks r.head) ahead.working.shows)) in
      record {
        rest = rest;
        terminals = ap length stores.stored ∙ length_push r.stored.items stores.copy ∙ ap (λ k. k + 1) ahead.terminals ∙ sym next;
        stored = λ k d lt. elim (cases_lt k n) [
          | inl low ↦ subst (λ (b : Box K Global). p.keeps r.profile b.value (first chunks ((k + 1) * r.every))) (sym (ap (λ (l : List (Box K Global)). get_or l k d) stores.stored ∙ stored_more r.stored.items stores.copy k n d ahead.terminals low)) (ahead.holds.stored k d low)
          | inr high ↦ let last : n ≡ k = omega arith in subst (λ (i : ℕ). p.keeps r.profile (get_or new.stored.items i d).value (first chunks ((i + 1) * r.every))) last (at_end d)
        ];
      }
    where
      exact : (n every : ℕ) → n % every ≡ 0 → n / every * every ≡ n
      exact n every whole = let all = div-add-mod' n every in omega arith

  -- and so is what was sent by then
  pub ahead_kept : (chunks : List Chunk) (r grown : Replay T P K) (place : ℕ) (sent' : Vec ℕ Global) → IsAhead p chunks r
      → IsGrown chunks r grown → place ≡ grown.reports.place
      → sent'.items ≡ grown.sent.items ++ place ∷ []
      → IsPlaying p chunks (record grown { frontier = grown.head; sent = sent' })
  ahead_kept chunks r grown place sent' ahead more is push =
      let n = r.frontier + 1 in
      let place_is : place ≡ length (sent_after p r.profile chunks r.head) = is ∙ ap (λ (x : Replay T P K). x.reports.place) more.rest ∙ ahead.place in
      let items : sent'.items ≡ r.sent.items ++ place ∷ [] = push ∙ ap (λ (x : Replay T P K). x.sent.items ++ place ∷ []) more.rest in
      let len : length sent'.items ≡ n + 1 = ap length items ∙ length_push r.sent.items place ∙ ap (λ k. k + 1) ahead.counts in
      let new : Replay T P K = record r { stored = grown.stored; frontier = r.head; sent = sent' } in
      let here : IsPlaying p chunks new = record {
        replay = record {
          kept = record {
            holds = record {
              every = ahead.holds.every;
              within = ahead.within;
              terminals = omega (arith, more.terminals);
              stored = more.stored;
              counts = omega (arith, ahead.head);
              sent = λ k low. elim (cases_lt k n) [
                | inl lt ↦ ap (λ (l : List ℕ). get_or l k 0) items ∙ get_or_append_left r.sent.items (place ∷ []) 0 k (omega (arith, ahead.counts)) ∙ ahead.holds.sent k (omega arith)
                | inr high ↦ let last : k ≡ n = omega (arith, ahead.head) in
                    ap (λ (l : List ℕ). get_or l k 0) items ∙ ap (λ i. get_or (r.sent.items ++ place ∷ []) i 0) last
                    ∙ get_or_push r.sent.items place 0 n ahead.counts ∙ place_is ∙ ap (λ i. length (sent_after p r.profile chunks i)) (ahead.head ∙ sym last)
              ];
              reports = ap (take (length (sent_after p r.profile chunks r.head))) ahead.reports ∙ take_all (length (sent_after p r.profile chunks r.head)) (sent_after p r.profile chunks r.head) (omega arith);
            };
            terminals = more.terminals;
            counts = len ∙ ap (λ k. k + 1) (sym ahead.head);
            reports = ahead.reports;
          };
          behind = omega arith;
          working = ahead.working;
        };
        place = ahead.place;
      } in
      let whole : record grown { frontier = grown.head; sent = sent' } ≡ new = ap (λ (x : Replay T P K). record x { frontier = x.head; sent = sent' }) more.rest in
      subst (IsPlaying p chunks) (sym whole) here

  -- what is kept stays right where more is stored behind it
  pub holds_longer : (chunks : List Chunk) (n : ℕ) (r new : Replay T P K) (copies : List (Box K Global)) (more : List ℕ)
      → new.profile ≡ r.profile → new.every ≡ r.every → new.reports ≡ r.reports
      → new.stored.items ≡ r.stored.items ++ copies → new.sent.items ≡ r.sent.items ++ more → HoldsUpTo p chunks n r
      → HoldsUpTo p chunks n new
  holds_longer chunks n r new copies more profile every reports stored counts h =
      let len = ap length stored ∙ length-append r.stored.items copies in
      let len_sent = ap length counts ∙ length-append r.sent.items more in
      record {
        every = rw every h.every;
        within = h.within;
        terminals = rw every (omega (arith, h.terminals));
        stored = rw (profile, every) (λ k d lt. subst (λ (b : Box K Global). p.keeps r.profile b.value (first chunks ((k + 1) * r.every)))
            (sym (ap (λ (l : List (Box K Global)). get_or l k d) stored ∙ get_or_append_left r.stored.items copies d k (omega (arith, h.terminals)))) (h.stored k d lt));
        counts = omega (arith, h.counts);
        sent = rw profile (λ k low. ap (λ (l : List ℕ). get_or l k 0) counts ∙ get_or_append_left r.sent.items more 0 k (omega (arith, h.counts)) ∙ h.sent k low);
        reports = rw (profile, reports) h.reports;
      }

  -- ---- the head goes back

  pub back_replay : (chunks : List Chunk) (r new : Replay T P K) (count : ℕ) → IsKept p chunks r → count ≤ r.frontier
      → new ≡ record r { working = new.working; head = multiple_below r.every count }
      → StandsAt p r.profile new.working chunks (multiple_below r.every count) → IsReplay p chunks new
  back_replay chunks r new count kept low rest stands =
      let moved : Replay T P K = record r { working = new.working; head = multiple_below r.every count } in
      let here : IsReplay p chunks moved = record {
        kept = record {
          holds = record {
            every = kept.holds.every;
            within = kept.holds.within;
            terminals = kept.holds.terminals;
            stored = kept.holds.stored;
            counts = kept.holds.counts;
            sent = kept.holds.sent;
            reports = kept.holds.reports;
          };
          terminals = kept.terminals;
          counts = kept.counts;
          reports = kept.reports;
        };
        behind = omega (arith, multiple_within r.every count);
        working = stands;
      } in
      subst (IsReplay p chunks) (sym rest) here

  -- what was sent by a count, as the list of counts tells it
  pub sent_read : (chunks : List Chunk) (r : Replay T P K) (k place : ℕ) → IsKept p chunks r → k ≤ r.frontier
      → place ≡ get_or r.sent.items k place → place ≡ length (sent_after p r.profile chunks k)
  sent_read chunks r k place kept low is =
      is ∙ get_or_default r.sent.items k place 0 (omega (arith, kept.counts)) ∙ kept.holds.sent k low

  pub sent_within : SendsInParts p → (chunks : List Chunk) (r : Replay T P K) (k place : ℕ) → IsKept p chunks r → k ≤ r.frontier
      → place ≡ length (sent_after p r.profile chunks k) → place ≤ length r.reports.bytes
  sent_within parts chunks r k place kept low is = omega (arith, sent_rises parts r.profile chunks k r.frontier low, ap length kept.reports)

  pub sent_cut : SendsInParts p → (chunks : List Chunk) (r : Replay T P K) (k place : ℕ) → IsKept p chunks r → k ≤ r.frontier
      → place ≡ length (sent_after p r.profile chunks k) → take place r.reports.bytes ≡ sent_after p r.profile chunks k
  sent_cut parts chunks r k place kept low is =
      ap (λ n. take n r.reports.bytes) is ∙ ap (take (length (sent_after p r.profile chunks k))) kept.reports ∙ sent_front parts r.profile chunks k r.frontier low

  -- sending goes on where the head stands
  pub placed : (chunks : List Chunk) (r : Replay T P K) (sink : Sink) (place : ℕ) → IsReplay p chunks r
      → place ≡ length (sent_after p r.profile chunks r.head) → sink ≡ record { bytes = r.reports.bytes; place = place }
      → IsPlaying p chunks (record r { reports = sink; fed = 0 })
  placed chunks r sink place replay is set =
      let bytes : sink.bytes ≡ r.reports.bytes = ap (λ (s : Sink). s.bytes) set in
      let kept = replay.kept in
      record {
        replay = record {
          kept = record {
            holds = holds_grown chunks r.frontier r _ refl refl refl refl (ap (take (length r.reports.bytes)) bytes ∙ take_all (length r.reports.bytes) r.reports.bytes (omega arith)) kept.holds;
            terminals = kept.terminals;
            counts = kept.counts;
            reports = bytes ∙ kept.reports;
          };
          behind = replay.behind;
          working = replay.working;
        };
        place = ap (λ (s : Sink). s.place) set ∙ is;
      }

  -- ---- chunks that come to the same bytes

  pub same_holds : (old new : List Chunk) (n : ℕ) (r : Replay T P K) → SameFront old new n → HoldsUpTo p old n r
      → HoldsUpTo p new n r
  same_holds old new n r same h =
      let by = λ (k : ℕ) (low : k ≤ n). sym (same.bytes k low) in
      record {
        every = h.every;
        within = same.within;
        terminals = h.terminals;
        stored = λ k d lt.
            let low : (k + 1) * r.every ≤ n = omega (arith, mul-le-mul_right r.every (least k (n / r.every) lt), div-mul-le_self n r.every) in
            subst (p.keeps r.profile (get_or r.stored.items k d).value) (by ((k + 1) * r.every) low) (h.stored k d lt);
        counts = h.counts;
        sent = λ k low. h.sent k low ∙ ap (λ (bytes : List ℕ). length (p.sent r.profile bytes)) (by k low);
        reports = subst (λ (bytes : List ℕ). take (length (p.sent r.profile bytes)) r.reports.bytes ≡ p.sent r.profile bytes) (by n (omega arith)) h.reports;
      }
    where
      least : (a b : ℕ) → a < b → a + 1 ≤ b
      least a b lt = omega arith

  same_working : (profile : P) (old new : List Chunk) (n at : ℕ) (seen : T) → SameFront old new n → at ≤ n
      → StandsAt p profile seen old at → StandsAt p profile seen new at
  same_working profile old new n at seen same low stands = record {
    shows = subst (p.shows profile seen) (sym (same.bytes at low)) stands.shows;
    told = subst (p.told profile seen) (sym (same.bytes (at - 1) (omega arith))) stands.told;
  }

  pub same_replay : (old new : List Chunk) (r : Replay T P K) → SameFront old new r.frontier → IsReplay p old r → IsReplay p new r
  same_replay old new r same replay = record {
    kept = record {
      holds = same_holds old new r.frontier r same replay.kept.holds;
      terminals = replay.kept.terminals;
      counts = replay.kept.counts;
      reports = replay.kept.reports ∙ ap (p.sent r.profile) (sym (same.bytes r.frontier (omega arith)));
    };
    behind = replay.behind;
    working = same_working r.profile old new r.frontier r.head r.working same replay.behind replay.working;
  }

  -- cut at a count behind which the head stands
  pub cut_replay : (old new : List Chunk) (r cut : Replay T P K) (n : ℕ) → SameFront old new n → IsReplay p old r
      → IsKept p new cut → cut.frontier ≡ n → cut.profile ≡ r.profile → cut.head ≡ r.head → cut.working ≡ r.working
      → r.head ≤ n → IsReplay p new cut
  cut_replay old new r cut n same replay kept frontier profile at head low = record {
    kept = kept;
    behind = omega arith;
    working = rw (profile, at, head) (same_working r.profile old new n r.head r.working same low replay.working);
  }

  -- ---- nothing was played

  zero_div : (every : ℕ) → 0 < every → 0 / every ≡ 0
  zero_div every some = let low = div-mul-le_self 0 every in div-eq_of_lt some

  pub replay_new : TellsOfNothing p → ((profile : P) → p.sent profile [] ≡ []) → (chunks : List Chunk) (r : Replay T P K) → 0 < r.every → r.frontier ≡ 0 → r.head ≡ 0
      → r.stored.items ≡ [] → r.reports ≡ record { bytes = []; place = 0 } → r.sent.items ≡ 0 ∷ []
      → p.shows r.profile r.working [] → IsReplay p chunks r
  replay_new tells nothing chunks r some frontier at stored reports counts shows =
      let none : r.frontier / r.every ≡ 0 = ap (λ n. n / r.every) frontier ∙ zero_div r.every some in
      let empty : r.reports.bytes ≡ [] = ap (λ (s : Sink). s.bytes) reports in
      let sent_now : sent_after p r.profile chunks r.frontier ≡ [] = ap (sent_after p r.profile chunks) frontier ∙ sent_none nothing r.profile chunks in
      record {
        kept = record {
          holds = record {
            every = some;
            within = omega arith;
            terminals = omega arith;
            stored = λ k d lt. absurd (omega arith);
            counts = omega (arith, ap length counts);
            sent = λ k low.
                let first_one : k ≡ 0 = omega arith in
                ap (λ (l : List ℕ). get_or l k 0) counts ∙ ap (λ i. get_or (0 ∷ []) i 0) first_one ∙ sym (ap length (ap (sent_after p r.profile chunks) first_one ∙ sent_none nothing r.profile chunks));
            reports = ap (λ (l : List ℕ). take (length l) r.reports.bytes) sent_now ∙ sym sent_now;
          };
          terminals = ap length stored ∙ sym none;
          counts = ap length counts ∙ sym (ap (λ n. n + 1) frontier);
          reports = empty ∙ sym sent_now;
        };
        behind = omega arith;
        working = rw at (stands_first tells r.profile chunks r.working shows);
      }
