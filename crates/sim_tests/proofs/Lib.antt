-- Lemmas.
mod OneFlow
