mod Jumping
