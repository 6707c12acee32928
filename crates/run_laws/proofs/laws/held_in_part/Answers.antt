use Rattle.run_laws.proofs.InPart.{gives_back, gives_more, gives_whole, bounded_back, bounded_more, bounded_whole}
use Rattle.run_laws.proofs.laws.held_in_part.Goals as goal

pub returns : goal.returns
returns g c = record {
  back = λ a T halt n f p k s part apart w. gives_back T halt (g.A.Post.meets a) p part n f k s apart w;
  more = λ a T halt n f p r k s part apart w. gives_more T halt (g.A.Post.meets a) p part n f r k s apart w;
  whole = λ a T halt n f p k s part apart w. gives_whole p part T halt (g.A.Post.meets a) n f k s apart w;
  bounded_back = λ a T halt n f p k s part apart w. bounded_back T halt (g.A.Post.meets a) p part n f k s apart w;
  bounded_more = λ a T halt n f p r k s part apart w. bounded_more T halt (g.A.Post.meets a) p part n f r k s apart w;
  bounded_whole = λ a T halt n f p k s part apart w. bounded_whole p part T halt (g.A.Post.meets a) n f k s apart w;
}
