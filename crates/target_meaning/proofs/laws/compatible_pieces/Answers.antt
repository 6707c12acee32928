use Rattle.target_meaning.proofs.Compatible.{sum_is_piece, piece_is_sum, whole_apart, apart_meets, whole_twice}
use Rattle.target_meaning.proofs.laws.compatible_pieces.Goals as goal

pub returns : goal.returns
returns c = record { union = sum_is_piece; compatible = piece_is_sum; disjoint = whole_apart; apart = apart_meets; whole = whole_twice }
