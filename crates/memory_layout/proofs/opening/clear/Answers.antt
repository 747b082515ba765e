-- The zeros that fill the first 65,536 bytes are those of 8,192 words.
use Rattle.memory_layout.proofs.Written.{cleared_fill}
use Rattle.memory_layout.proofs.opening.clear.Goals as goal

pub returns : goal.returns
returns c = cleared_fill _ 8192 _ c.requires (c.fill.ensures.after (λ y e. e))
