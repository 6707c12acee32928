-- What is followed has nodes, and the code that it is followed with has the same: lists of nodes and names one after the other, and ends of blocks.
use Rattle.std.specs.Prelude.{◌≡◌, ℕ, zero, suc, ◌+◌, ◌-◌, max, Bool, true, false, ◌&&◌, List, [], ◌∷◌, ◌++◌, length, Option, codes}
use Rattle.std.proofs.Common.{refl, ap, ◌∙◌, subst, arith}
use Rattle.std.proofs.lemmas.List.{append-nil}
use Rattle.target_code.specs.declared.tree.Instr.{Instr}
use Rattle.nres_core.specs.FlatTree as t
use Rattle.nres_core.specs.FlatTree.{Binds, Ending}
use Rattle.rule_check.specs.Context.{Shape}
use Rattle.soundness.specs.Nodes as n
use Rattle.soundness.specs.Nodes.{Nodes, End_node, Op_node, If_node, While_node, Both_node, Use_node, then, SpecTree, CodeTree, numbered}
use Rattle.fits.specs.Places.{Token, State, bind_entry, bind_words, bind_all, bind_at, fresh, all_fresh, put_tokens, with_toks}
use Rattle.fits.specs.Follow.{Line, Walk, Views, and_then, branch_name, end_test, block, after_par, after_split, put_maybe, out_tokens}
use Rattle.fits_shape.specs.Taken.{after, Takes}
use Rattle.fits_shape.proofs.Leads.{Leads, here, then_leads, need_leads, some_leads, ok_leads, at_end_leads, Passed, pass_leads}

-- ---- nodes and names, one after the other

then_end : (ns : Nodes) → then ns End_node ≡ ns
then_end End_node = refl
then_end (Op_node op kind ns) = ap (Op_node op kind) (then_end ns)
then_end (If_node xs ys ns) = ap (If_node xs ys) (then_end ns)
then_end (While_node xs ys ns) = ap (While_node xs ys) (then_end ns)
then_end (Both_node xs ys ns) = ap (Both_node xs ys) (then_end ns)
then_end (Use_node j ns) = ap (Use_node j) (then_end ns)

pub then_then : (ns ms ls : Nodes) → then (then ns ms) ls ≡ then ns (then ms ls)
then_then End_node ms ls = refl
then_then (Op_node op kind ns) ms ls = ap (Op_node op kind) (then_then ns ms ls)
then_then (If_node xs ys ns) ms ls = ap (If_node xs ys) (then_then ns ms ls)
then_then (While_node xs ys ns) ms ls = ap (While_node xs ys) (then_then ns ms ls)
then_then (Both_node xs ys ns) ms ls = ap (Both_node xs ys) (then_then ns ms ls)
then_then (Use_node j ns) ms ls = ap (Use_node j) (then_then ns ms ls)

-- the branches from the b-th on, which is b1 where b is 0
abbrev pub branches : ℕ → ℕ → List (List ℕ)
branches b k = numbered (codes "b") (suc b) k

pub joined : (b k m c : ℕ) (us : List (List ℕ)) → c ≡ b + k → branches b k ++ (branches c m ++ us) ≡ branches b (k + m) ++ us
joined b zero m c us e =
    let o : c ≡ b = omega arith in
    let n : m ≡ zero + m = omega arith in
    ap (λ z. branches z m ++ us) o ∙ ap (λ z. branches b z ++ us) n
joined b (suc k) m c us e =
    let n : suc (k + m) ≡ suc k + m = omega arith in
    ap (λ z. branch_name b ∷ z) (joined (suc b) k m c us (omega arith)) ∙ ap (λ z. branches b z ++ us) n

pub three : (b k m j c d : ℕ) (us : List (List ℕ)) → c ≡ b + k → d ≡ c + m → branches b k ++ (branches c m ++ (branches d j ++ us)) ≡ branches b (k + (m + j)) ++ us
three b k m j c d us e g = ap (λ z. branches b k ++ z) (joined c m j d us g) ∙ joined b k (m + j) c us e

pub pairs : (b k m c : ℕ) → c ≡ b + k → branches b k ++ branches c m ≡ branches b (k + m)
pairs b zero m c e =
    let o : c ≡ b = omega arith in
    let n : m ≡ zero + m = omega arith in
    ap (λ z. branches z m) o ∙ ap (branches b) n
pairs b (suc k) m c e =
    let n : suc (k + m) ≡ suc k + m = omega arith in
    ap (λ z. branch_name b ∷ z) (pairs (suc b) k m c (omega arith)) ∙ ap (branches b) n

-- ---- states keep the number of branches

pub words_branch : (s : State) (vs : List ℕ) (zs : List Shape) (ws : List (List Token)) → (bind_words s vs zs ws).branch ≡ s.branch
words_branch s [] zs ws = refl
words_branch s (v ∷ vs) [] ws = refl
words_branch s (v ∷ vs) (z ∷ zs) [] = refl
words_branch s (v ∷ vs) (z ∷ zs) (w ∷ ws) = words_branch (bind_entry s v z w) vs zs ws

pub all_branch : (s : State) (vs : List ℕ) (zs : List Shape) → (bind_all s vs zs).branch ≡ s.branch
all_branch s [] zs = refl
all_branch s (v ∷ vs) [] = refl
all_branch s (v ∷ vs) (z ∷ zs) = all_branch (bind_entry s v z (fresh v z)) vs zs

pub at_branch : (s : State) (to vs : List ℕ) (zs : List Shape) → (bind_at s to vs zs).branch ≡ s.branch
at_branch s to vs zs = all_branch (with_toks s (put_tokens s.toks to (all_fresh vs zs))) vs zs

pub split_branch : (u s : State) (l r : ℕ → Bool) (s1 s2 : State) (lto rto : List ℕ) (out : ℕ) (shape : Shape) (words : List Token) (outs : List ℕ) (shapes : List Shape) → (after_split u s l r s1 s2 lto rto out shape words outs shapes).branch ≡ s2.branch
split_branch u s l r s1 s2 lto rto out shape words outs shapes = all_branch (bind_entry (record {
  toks = put_maybe u.toks (lto ++ rto) (out_tokens (length lto - 3) (all_fresh outs shapes));
  entries = u.entries;
  hold = (after_par s l r s1 s2).hold;
  next = max s1.next s2.next;
  facts = u.facts;
  defs = u.defs;
  branch = s2.branch;
}) out shape words) outs shapes

-- ---- the first of several tests

pub first_of_six : (a b c d e f : Bool) → (a && b && c && d && e && f) ≡ true → a ≡ true
first_of_six true b c d e f h = refl
first_of_six false b c d e f h = absurd (cc h)

pub first_of_eight : (a b c d e f g h : Bool) → (a && b && c && d && e && f && g && h) ≡ true → a ≡ true
first_of_eight true b c d e f g h k = refl
first_of_eight false b c d e f g h k = absurd (cc k)

-- ---- what is followed

module _ (may : List ℕ → Bool → Type 0) (V : Views) (own : ℕ) where
  -- binds that were followed where so many branches were before, from this code and these lines up to these: both have the same nodes, and the branches stand
  -- in text order
  pub record Grown (bs : Binds) (b : ℕ) (code : List Instr) (lines : List Line) (last : State) (rest : List Instr) (left : List Line) : Type 0 where
    pub nodes : Nodes
    pub count : ℕ
    pub branch : last.branch ≡ b + count
    pub lines_left : left ≡ after bs lines
    pub spec : Takes may bs lines → SpecTree may bs nodes
    pub grows : (ms : Nodes) (us : List (List ℕ)) → CodeTree V.procs own rest ms us → CodeTree V.procs own code (then nodes ms) (branches b count ++ us)

  abbrev pub Follows : Walk → Binds → Type 0
  Follows w bs = (s : State) (c : List Instr) (ls : List Line) → Leads (w s c ls) (Grown bs s.branch c ls)

  -- what follows the bind is followed
  pub go_on : (w : Walk) (bs : Binds) → Follows w bs → (s : State) (c : List Instr) (ls : List Line) (b : ℕ) → s.branch ≡ b → (P : State → List Instr → List Line → Type 0)
      → ((last : State) (rest : List Instr) (left : List Line) → Grown bs b c ls last rest left → P last rest left) → Leads (w s c ls) P
  go_on w bs h s c ls b e P f = record { to = λ t d ms g. f t d ms (subst (λ z. Grown bs z c ls t d ms) e ((h s c ls).to t d ms g)) }

  -- no bind
  pub none_grown : (s : State) (c : List Instr) (ls : List Line) → Grown t.No_bind s.branch c ls s c ls
  none_grown s c ls = record { nodes = End_node; count = 0; branch = omega arith; lines_left = refl; spec = λ k. n.no_bind; grows = λ ms us k. k }

  -- code up to its end
  pub closed : (bs : Binds) (b : ℕ) (code : List Instr) (ls : List Line) (last : State) (left : List Line) (g : Grown bs b code ls last [] left) → CodeTree V.procs own code g.nodes (branches b g.count)
  closed bs b code ls last left g =
      subst (λ us. CodeTree V.procs own code g.nodes us) (append-nil (branches b g.count)) (subst (λ ns. CodeTree V.procs own code ns (branches b g.count ++ [])) (then_end g.nodes) (g.grows End_node [] n.no_instr))

  -- plain code behind
  pub behind : (bs : Binds) (b : ℕ) (code : List Instr) (ls : List Line) (s u : State) (is js : List Instr) (left : List Line) → Grown bs b code ls s is left → Passed V.procs own s u is js → Grown bs b code ls u js left
  behind bs b code ls s u is js left g p = record {
    nodes = g.nodes;
    count = g.count;
    branch = p.branch ∙ g.branch;
    lines_left = g.lines_left;
    spec = g.spec;
    grows = λ ms us k. g.grows ms us (p.code ms us k);
  }

  at_none : (bs : Binds) (b : ℕ) (code : List Instr) (ls : List Line) (u : State) (js : List Instr) (left : List Line) → js ≡ [] → Grown bs b code ls u js left → Grown bs b code ls u [] left
  at_none bs b code ls u js left e g = subst (λ z. Grown bs b code ls u z left) e g

  -- the same where only holds differ
  abbrev held : (bs : Binds) (b : ℕ) (code : List Instr) (ls : List Line) (u v : State) (left : List Line) → v.branch ≡ u.branch → Grown bs b code ls u [] left → Grown bs b code ls v [] left
  held bs b code ls u v left e g = record { nodes = g.nodes; count = g.count; branch = e ∙ g.branch; lines_left = g.lines_left; spec = g.spec; grows = g.grows }

  -- a block up to its end
  abbrev pub Ends : Binds → ℕ → List Instr → List Line → State → List Instr → List Line → Type 0
  Ends bs b code ls last rest left = Grown bs b code ls last [] left

  pub block_grown : (R : ℕ) (w : Walk) (bs : Binds) → Follows w bs → (count mark : ℕ) (astray : List Shape → Option ℕ) (e : Ending) (rs : List ℕ) (s : State) (code : List Instr) (ls : List Line) (b : ℕ) → s.branch ≡ b
      → Leads (block R V w count mark astray e rs s code ls) (Ends bs b code ls)
  block_grown R w bs h count mark astray e rs s code ls b eb =
      let P : State → List Instr → List Line → Type 0 = Ends bs b code ls in
      then_leads P _ _ (Grown bs b code ls) (go_on w bs h s code ls b eb (Grown bs b code ls) (λ t d ms g. g)) (λ s1 c1 l1 g.
      pass_leads P V.procs own R V s1 c1 l1 _ (λ u is ps. at_end_leads P is l1 _ (λ ee. some_leads P _ l1 _ (λ infos ei. ok_leads P _ l1 _ (λ m. need_leads P _ l1 _ (λ en.
      here P _ [] l1 (held bs b code ls u _ l1 refl (at_none bs b code ls u is l1 ee (behind bs b code ls s1 u c1 is l1 g ps)))))))))

  pub test_grown : (R : ℕ) (w : Walk) (bs : Binds) → Follows w bs → (mark : ℕ) (s : State) (code : List Instr) (ls : List Line) (b : ℕ) → s.branch ≡ b
      → Leads (and_then (w s code ls) (end_test R V mark)) (Ends bs b code ls)
  test_grown R w bs h mark s code ls b eb =
      let P : State → List Instr → List Line → Type 0 = Ends bs b code ls in
      then_leads P _ _ (Grown bs b code ls) (go_on w bs h s code ls b eb (Grown bs b code ls) (λ t d ms g. g)) (λ s1 c1 l1 g.
      pass_leads P V.procs own R V s1 c1 l1 _ (λ u is ps. at_end_leads P is l1 _ (λ ee. need_leads P _ l1 _ (λ en.
      here P u [] l1 (at_none bs b code ls u is l1 ee (behind bs b code ls s1 u c1 is l1 g ps))))))
