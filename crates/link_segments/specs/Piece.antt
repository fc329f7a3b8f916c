-- What a contract sees of a piece whose data lie elsewhere.
use Rattle.dna_links.specs.Segmentation.{Piece}
use Rattle.link_segments.specs.declared.piece.PieceSlice.{PieceSlice}

abbrev pub slice_view : PieceSlice → Piece
slice_view p = record { begins = p.begins; ends = p.ends; body = p.body.now }
