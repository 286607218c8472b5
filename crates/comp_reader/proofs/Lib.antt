mod Depth
mod Whole
