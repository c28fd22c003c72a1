-- What a reader has to believe: `Code` (what n and g may be, code words), `Mending` (patterns, carrying a rule, mending a word), `Coding` (messages and
-- code words), `Calls` (what the calls hand back) and `Demand` (demand 2). `Row` computes, and is proved to agree with them;
-- `Finding` is cited by private functions only.
pub mod Code
pub mod Mending
pub mod Coding
pub mod Calls
pub mod Demand
pub mod Row
pub mod Finding
