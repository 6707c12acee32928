-- What each call leaves of a view beside its cells.
use Rattle.std.proofs.Common.{◌≡◌, ℕ, ◌+◌, ◌-◌, ◌/◌, max, true, false, List, [], ◌∷◌, ◌++◌, refl, ap, ◌∙◌, append-nil}
use Rattle.block_dir.specs.declared.Part.{Part}
use Rattle.block_dir.specs.declared.view.View.{View}
use Rattle.block_dir.specs.Views.{whole, opening_view, walked, won, released, written, joined, marks, left_view, right_view, kept, handed}
use Rattle.block_dir.proofs.Marking.{marks_leave}

pub position_opening_view : (cap : ℕ) → (opening_view cap).position ≡ 1
unfolding opening_view
position_opening_view cap = refl

pub weight_opening_view : (cap : ℕ) → (opening_view cap).weight ≡ whole
unfolding opening_view
weight_opening_view cap = refl

pub room_opening_view : (cap : ℕ) → (opening_view cap).room ≡ cap
unfolding opening_view
room_opening_view cap = refl

pub drawn_opening_view : (cap : ℕ) → (opening_view cap).drawn ≡ []
unfolding opening_view
drawn_opening_view cap = refl

pub position_walked : (q : ℕ) (v : View) → (walked q v).position ≡ q
unfolding walked
position_walked q v = refl

pub weight_walked : (q : ℕ) (v : View) → (walked q v).weight ≡ v.weight
unfolding walked
weight_walked q v = refl

pub room_walked : (q : ℕ) (v : View) → (walked q v).room ≡ v.room
unfolding walked
room_walked q v = refl

pub drawn_walked : (q : ℕ) (v : View) → (walked q v).drawn ≡ v.drawn
unfolding walked
drawn_walked q v = refl

pub position_won : (q : ℕ) (n : ℕ) (v : View) → (won q n v).position ≡ q + n + 1
unfolding won
position_won q n v = refl

pub weight_won : (q : ℕ) (n : ℕ) (v : View) → (won q n v).weight ≡ v.weight
unfolding won
weight_won q n v = refl

pub room_won : (q : ℕ) (n : ℕ) (v : View) → (won q n v).room ≡ v.room
unfolding won
room_won q n v = refl

pub drawn_won : (q : ℕ) (n : ℕ) (v : View) → (won q n v).drawn ≡ v.drawn ++ (q, n) ∷ []
unfolding won
drawn_won q n v = refl

pub position_released : (b : ℕ) (n : ℕ) (v : View) → (released b n v).position ≡ v.position
unfolding released
position_released b n v = refl

pub weight_released : (b : ℕ) (n : ℕ) (v : View) → (released b n v).weight ≡ v.weight
unfolding released
weight_released b n v = refl

pub room_released : (b : ℕ) (n : ℕ) (v : View) → (released b n v).room ≡ v.room
unfolding released
room_released b n v = refl

pub drawn_released : (b : ℕ) (n : ℕ) (v : View) → (released b n v).drawn ≡ v.drawn
unfolding released
drawn_released b n v = refl

pub position_written : (p : ℕ) (x : ℕ) (v : View) → (written p x v).position ≡ v.position
unfolding written
position_written p x v = refl

pub weight_written : (p : ℕ) (x : ℕ) (v : View) → (written p x v).weight ≡ v.weight
unfolding written
weight_written p x v = refl

pub room_written : (p : ℕ) (x : ℕ) (v : View) → (written p x v).room ≡ v.room
unfolding written
room_written p x v = refl

pub drawn_written : (p : ℕ) (x : ℕ) (v : View) → (written p x v).drawn ≡ v.drawn
unfolding written
drawn_written p x v = refl

pub position_joined : (v : View) (u : View) → (joined v u).position ≡ max v.position u.position
unfolding joined
position_joined v u = refl

pub weight_joined : (v : View) (u : View) → (joined v u).weight ≡ v.weight + u.weight
unfolding joined
weight_joined v u = refl

pub drawn_joined : (v : View) (u : View) → (joined v u).drawn ≡ v.drawn ++ u.drawn
unfolding joined
drawn_joined v u = refl

pub position_kept : (h l : List Part) (v : View) → (kept h l v).position ≡ v.position
unfolding kept left_view
position_kept h l v = (marks_leave l true (marks h false v)).position ∙ (marks_leave h false v).position

pub room_kept : (h l : List Part) (v : View) → (kept h l v).room ≡ v.room
unfolding kept left_view
room_kept h l v = (marks_leave l true (marks h false v)).room ∙ (marks_leave h false v).room

pub weight_kept : (h l : List Part) (v : View) → (kept h l v).weight ≡ v.weight - v.weight / 2
unfolding kept left_view
weight_kept h l v = ap (λ (n : ℕ). n - n / 2) ((marks_leave l true (marks h false v)).weight ∙ (marks_leave h false v).weight)

pub drawn_kept : (h l : List Part) (v : View) → (kept h l v).drawn ≡ v.drawn
unfolding kept left_view
drawn_kept h l v = (marks_leave l true (marks h false v)).drawn ∙ (marks_leave h false v).drawn

pub position_handed : (h l : List Part) (v : View) → (handed h l v).position ≡ v.position
unfolding handed right_view
position_handed h l v = (marks_leave l true (marks h false v)).position ∙ (marks_leave h false v).position

pub room_handed : (h l : List Part) (v : View) → (handed h l v).room ≡ v.room
unfolding handed right_view
room_handed h l v = (marks_leave l true (marks h false v)).room ∙ (marks_leave h false v).room

pub weight_handed : (h l : List Part) (v : View) → (handed h l v).weight ≡ v.weight / 2
unfolding handed right_view
weight_handed h l v = ap (λ (n : ℕ). n / 2) ((marks_leave l true (marks h false v)).weight ∙ (marks_leave h false v).weight)

pub drawn_handed : (h l : List Part) (v : View) → (handed h l v).drawn ≡ []
unfolding handed right_view
drawn_handed h l v = refl

pub drawn_rejoined : (h l : List Part) (v : View) → (joined (kept h l v) (handed h l v)).drawn ≡ v.drawn
drawn_rejoined h l v = drawn_joined (kept h l v) (handed h l v) ∙ ((λ i. drawn_kept h l v i ++ drawn_handed h l v i) ∙ append-nil v.drawn)

pub ruleset view_fields = (position_opening_view, weight_opening_view, room_opening_view, drawn_opening_view, position_walked, weight_walked, room_walked, drawn_walked, position_won, weight_won, room_won, drawn_won, position_released, weight_released, room_released, drawn_released, position_written, weight_written, room_written, drawn_written, position_joined, weight_joined, drawn_joined, position_kept, room_kept, weight_kept, drawn_kept, position_handed, room_handed, weight_handed, drawn_handed)
