pub mod SlotLemmas
pub mod MeetLaw
pub mod PlotLemmas
pub mod TextLemmas
