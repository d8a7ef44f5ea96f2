-- Words that differ at most in the phase, the cursor, the words of pacing and the lists gray, grayagain and weak: what is reached, due,
-- kept and spared is the same, and so are the arenas. Assumes nothing.
--     Far, Calm, calm_put, calm_lists     such a change; a store of such a word, and the lists emptied
--     calm_alike, calm_based              a collection from there is one from the words before
use Rattle.std.specs.Prelude.{◌≡◌, refl, ◌⊎◌, ◌≢◌, List, ℕ, zero, suc, min, ◌+◌, ◌*◌, ◌≤◌, ◌<◌, Some, None}
use Rattle.std.proofs.Common.{sym, subst, ap, ◌∙◌, inl, inr, ⊎_elim, arith, length-set, get_or-set_other}
use Rattle.std.proofs.Math.ListN.{length}
use Rattle.base.specs.Ways.{if_eq}
use Rattle.base.specs.Words.{at, put}
use Rattle.arena.specs.Slots.{named}
use Rattle.layout.specs.declared.Lay.{Lay}
use Rattle.layout.specs.declared.List.{List as Part}
use Rattle.layout.specs.Places.{WHITE}
use Rattle.lists.specs.Lists.{RoomFor, damage, length_of, cleared}
use Rattle.lists.proofs.Laws.{cleared_kept}
use Rattle.record.specs.Fields.{body_at}
use Rattle.laid.specs.Laid.{Laid, gray_room_lem, grayagain_room_lem, weak_room_lem}
use Rattle.mark.specs.Ops.{Ref, ref, gray, grayagain, weak}
use Rattle.mark.specs.Words.{arena_of, colour_w, ops}
use Rattle.propagate.specs.Roots.{clear_lists}
use Rattle.mark_laws.specs.Apart.{Apart, Order, order, arena_header, arena_lists, arena_kind}
use Rattle.mark_laws.specs.Colours.{named_shade}
use Rattle.mark_laws.specs.Changes.{Marked, moves_marked}
use Rattle.mark_laws.specs.Moves.{still, emptied}
use Rattle.room_laws.proofs.Queues.{queue_count}
use Rattle.reach.specs.Cycle.{AllWhite}
use Rattle.reach.specs.Shades.{shade_alike}
use Rattle.atomic_laws.specs.Alikes.{Alike}
use Rattle.atomic_laws.proofs.Alikes.{alike_back, kept_alike, spared_alike}
use Rattle.cycle_laws.specs.Collects.{frame_one}
use Rattle.sweep_laws.specs.Places.{Rows}
use Rattle.sweep_laws.specs.Mixtures.{Based}

-- a word that is none of those
abbrev pub Far : Lay → ℕ → Type 0
Far l q = (q < 53) ⊎ ((q ≡ WHITE) ⊎ (((72 ≤ q) × (q < l.gray.base)) ⊎ (l.queue.base ≤ q)))

pub record Calm (l : Lay) (w u : List ℕ) : Type 0 where
  pub long : length u ≡ length w
  pub word : (q : ℕ) → Far l q → at u q ≡ at w q

pub calm_none : {l : Lay} {w : List ℕ} → Calm l w w
calm_none = record { long = refl; word = λ q f. refl }

pub calm_then : {l : Lay} {w u x : List ℕ} → Calm l w u → Calm l u x → Calm l w x
calm_then s t = record { long = t.long ∙ s.long; word = λ q f. t.word q f ∙ s.word q f }

module _ (l : Lay) (ok : Laid l) (a : Apart l) where
  abbrev o : Order l
  o = order l ok a

  -- A store of such a word below the lists' counts.
  pub calm_put : (p : ℕ) → 53 ≤ p → p < 72 → p ≢ WHITE → (n : ℕ) {w u : List ℕ} → Calm l w u → Calm l w (put p n u)
  calm_put p g h d n {w} {u} s = record { long = length-set u p n ∙ s.long; word = λ q f. get_or-set_other u p q n 0 (apart_from q f) ∙ s.word q f }
    where
      apart_from : (q : ℕ) → Far l q → q ≢ p
      apart_from q (inl f) e = omega (arith, e, f, g)
      apart_from q (inr (inl f)) e = d (sym e ∙ f)
      apart_from q (inr (inr (inl f))) e = omega (arith, e, f.0, h)
      apart_from q (inr (inr (inr f))) e = omega (arith, e, f, h, o.header, a)

  -- One of the three lists is emptied,
  calm_list : (x : Part) (w : List ℕ) → RoomFor x w → 69 ≤ x.count → x.count < 72 → l.gray.base ≤ x.base → x.base + 3 * x.room ≤ l.queue.base → length (cleared x w) ≡ length w
      → Calm l w (cleared x w)
  calm_list x w room g h p q e = record { long = e; word = word }
    where
      few : (n m : ℕ) → min n m ≤ m
      few n m = omega arith

      word : (q : ℕ) → Far l q → at (cleared x w) q ≡ at w q
      word y (inl f) = cleared_kept x w room y (λ z. omega (arith, z, f, g)) (inl (omega (arith, f, p, o.header, a)))
      word y (inr (inl f)) = cleared_kept x w room y (λ z. omega (arith, z, f, g)) (inl (omega (arith, f, p, o.header, a)))
      word y (inr (inr (inl f))) = cleared_kept x w room y (λ z. omega (arith, z, f.0, h)) (inl (omega (arith, f.1, p)))
      word y (inr (inr (inr f))) = cleared_kept x w room y (λ z. omega (arith, z, f, h, o.header, a)) (inr (omega (arith, f, q, few (at w x.count) x.room)))

  -- and all three.
  pub calm_lists : (w : List ℕ) → l.words ≤ length w → Calm l w (clear_lists (ops l) w)
  unfolding clear_lists
  calm_lists w long =
      let m₁ : Marked l w (cleared l.gray w) = moves_marked l ok a (emptied (still refl) gray refl) long in
      let w₁ = cleared l.gray w in
      let l₁ : l.words ≤ length w₁ = omega (arith, long, m₁.long) in
      let m₂ : Marked l w₁ (cleared l.grayagain w₁) = moves_marked l ok a (emptied (still refl) grayagain refl) l₁ in
      let w₂ = cleared l.grayagain w₁ in
      let l₂ : l.words ≤ length w₂ = omega (arith, l₁, m₂.long) in
      let m₃ : Marked l w₂ (cleared l.weak w₂) = moves_marked l ok a (emptied (still refl) weak refl) l₂ in
      calm_then (calm_list l.gray w (gray_room_lem l w ok long) (omega (arith, o.gray)) (omega (arith, o.gray)) (omega arith) (omega (arith, a)) m₁.long)
      (calm_then (calm_list l.grayagain w₁ (grayagain_room_lem l w₁ ok l₁) (omega (arith, o.grayagain)) (omega (arith, o.grayagain)) (omega (arith, a)) (omega (arith, a)) m₂.long)
      (calm_list l.weak w₂ (weak_room_lem l w₂ ok l₂) (omega (arith, o.weak)) (omega (arith, o.weak)) (omega (arith, a)) (omega (arith, a)) m₃.long))

  -- Arenas and what links are read from are far.
  far_header : {q : ℕ} → 73 ≤ q → q < 91 → Far l q
  far_header f g = inr (inr (inl (omega (arith, f), omega (arith, g, o.header, a))))

  far_past : {q : ℕ} → l.boundary ≤ q → Far l q
  far_past f = inr (inr (inr (omega (arith, f, a))))

  far_cell : (k : ℕ) → k ≤ 5 → {q : ℕ} → (arena_of l k).base ≤ q → q < (arena_of l k).base + 4 * (arena_of l k).slots → Far l q
  far_cell k i f g = inr (inr (inl (omega (arith, f, arena_header l o k i), omega (arith, g, arena_lists l o k i))))

  module _ {w u : List ℕ} (s : Calm l w u) where
    -- no colour changes
    pub calm_shade : (x : Ref) → colour_w l x u ≡ colour_w l x w
    calm_shade x =
        shade_alike l ok a w u x (ap (λ (n : ℕ). min n (arena_of l x.kind).slots) (s.word ((arena_of l x.kind).top + 1) (fresh_far x.kind)))
        (λ i. s.word ((arena_of l x.kind).base + (arena_of l x.kind).slots + x.at) (far_cell x.kind (arena_kind l o x.kind x.at i) (omega arith) (omega (arith, i))))
        (λ i. s.word ((arena_of l x.kind).base + x.at) (far_cell x.kind (arena_kind l o x.kind x.at i) (omega arith) (omega (arith, i))))
      where
        fresh_far : (k : ℕ) → Far l ((arena_of l k).top + 1)
        fresh_far zero = far_header (omega (arith, o.top_strings)) (omega (arith, o.top_strings))
        fresh_far (suc zero) = far_header (omega (arith, o.top_tables)) (omega (arith, o.top_tables))
        fresh_far (suc (suc zero)) = far_header (omega (arith, o.top_functions)) (omega (arith, o.top_functions))
        fresh_far (suc (suc (suc zero))) = far_header (omega (arith, o.top_upvalues)) (omega (arith, o.top_upvalues))
        fresh_far (suc (suc (suc (suc zero)))) = far_header (omega (arith, o.top_userdata)) (omega (arith, o.top_userdata))
        fresh_far (suc (suc (suc (suc (suc zero))))) = far_header (omega (arith, o.top_threads)) (omega (arith, o.top_threads))
        fresh_far (suc (suc (suc (suc (suc (suc k)))))) = inl (omega arith)

    calm_named : (k i g : ℕ) → named (arena_of l k) i g u ≡ named (arena_of l k) i g w
    calm_named k i g =
        named_shade (arena_of l k) i g u
        ∙ ap (λ (c : ℕ). if_eq c 0 None (Some i)) (calm_shade (ref k i g))
        ∙ sym (named_shade (arena_of l k) i g w)

    pub calm_alike : Alike l w u
    calm_alike = record {
      reads = record {
        header = record { word = λ q g h. s.word q (inl (omega (arith, h))) };
        protos = record { word = λ q g h. high q (omega (arith, g, o.past_protos)) };
        strings = λ i e. record { word = λ q g h. high q (omega (arith, g, o.past_strings)) };
        tables = λ i e. record { word = λ q g h. high q (omega (arith, g, o.past_tables)) };
        functions = λ i e. record { word = λ q g h. high q (omega (arith, g, o.past_functions)) };
        upvalues = λ i e. record { word = λ q g h. high q (omega (arith, g, o.past_upvalues)) };
        userdata = λ i e. record { word = λ q g h. high q (omega (arith, g, o.past_userdata)) };
        threads = λ i e. record { word = λ q g h. high q (omega (arith, g, o.past_threads)) };
        string_names = λ i g. calm_named 0 i g;
        table_names_lem = λ i g. calm_named 1 i g;
      };
      mains = record {
        stack = record { word = λ q g h. high q (omega (arith, g, o.past_stack)) };
        opens = record { word = λ q g h. high q (omega (arith, g, o.past_opens)) };
        frames = record { word = λ q g h. high q (omega (arith, g, o.past_frames)) };
      };
      shades = calm_shade;
      marks = λ i h. high (body_at l.userdata i + 6) (omega (arith, o.past_userdata));
    }
      where
        high : (q : ℕ) → l.boundary ≤ q → at u q ≡ at w q
        high q h = s.word q (far_past h)

    calm_white : at u WHITE ≡ at w WHITE
    calm_white = s.word WHITE (inr (inl refl))

    -- every occupied slot has the current white
    pub calm_whites : AllWhite l w → AllWhite l u
    calm_whites f = record {
      white = λ x h. calm_shade x ∙ f.white x (subst (λ n. 1 ≤ n) (calm_shade x) h) ∙ sym calm_white;
      low = omega (arith, calm_white, f.low);
      high = omega (arith, calm_white, f.high);
    }

    -- So a collection from there is one from the words before.
    pub calm_based : Rows l → (b : List ℕ) → AllWhite l w → length_of l.queue w ≡ 0 → Based l w b u
    calm_based r b f none =
        let one = frame_one l ok in
        let like = calm_alike in
        let back = alike_back like in
        record {
          paint = record {
            long = s.long;
            header = λ q p g. s.word q (far_header p g);
            cells = λ k q p g. let d = arena_kind l o k 0 (omega (arith, p, g)) in s.word q (far_cell k d (omega (arith, p)) (omega (arith, g)));
            colours = λ k i p. inl (s.word ((arena_of l k).base + i) (far_cell k (arena_kind l o k i p) (omega arith) (omega (arith, p))));
          };
          shades = calm_shade;
          keeps = λ x. (
            (λ k. ⊎_elim (λ z. inl (kept_alike one b back x z)) (λ z. inr (spared_alike one b back x z)) k),
            (λ k. ⊎_elim (λ z. inl (kept_alike one b like x z)) (λ z. inr (spared_alike one b like x z)) k),
          );
          white = calm_white;
          mark = s.word damage (inl (omega arith));
          whites = calm_whites f;
          queue = ap (λ (n : ℕ). min n l.queue.room) (s.word l.queue.count (inr (inr (inl (omega (arith, queue_count l ok), omega (arith, queue_count l ok, o.header, a)))))) ∙ none;
        }
