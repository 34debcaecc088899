pub mod Slots
pub mod Blocks
pub mod Returning
pub mod Charts
pub mod Svg
pub mod Pictures
pub mod Plotting
pub mod Rising
